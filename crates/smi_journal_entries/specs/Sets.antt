-- The members of sets, as entries change them.
use Rattle.std.specs.Prelude.{◌≡◌, ℕ, Bool, true, false, not, ◌==◌, nat_eq, if◌then◌else◌, List, [], ◌∷◌, ◌++◌, Option, None, Some, All, filter, fold, map, slice_get, slice_set}
use Rattle.std.specs.List.{list_any}
use Rattle.std.specs.Option.{option_map_or}
use Rattle.sml_domain.specs.Domain.{Domain, Group}
use Rattle.sml_domain.specs.Lookups.{members_at}
use Rattle.sml_domain.specs.Sound.{EachOnce, IsObject}
use Rattle.smi_journal_entries.specs.declared.entry.Entry.{Entry}
use Rattle.smi_journal_entries.specs.declared.entry.Entry.TheVariants.{Start, Post, Wait, Seen, End, Kill, Insert, Remove, NoMember}

-- the members of all sets, a place a set: None if they are the declared ones
abbrev pub Sets : Type 0
Sets = List (Option (List ℕ))

-- the members of a set are the declared ones
abbrev pub as_declared : Group → Option (List ℕ)
as_declared g = None

-- so are those of each set
abbrev pub unchanged : Domain → Sets
unchanged d = map as_declared d.groups

-- no set was changed
abbrev pub NoneChanged : Sets → Type 0
NoneChanged [] = Unit {0}
NoneChanged (kept ∷ sets) = (kept ≡ None) × NoneChanged sets

-- if it is noted that no set was changed, no set was changed
abbrev pub MayBeUnchanged : Bool → Sets → Type 0
MayBeUnchanged true sets = NoneChanged sets
MayBeUnchanged false sets = Unit {0}

-- the members of a set that has these declared ones
abbrev pub or_declared : List ℕ → Option (List ℕ) → List ℕ
or_declared declared None = declared
or_declared declared (Some members) = members

-- the members of a set
abbrev pub members_in : Domain → Sets → ℕ → List ℕ
members_in d sets set = option_map_or (or_declared (members_at d set)) (slice_get sets set) (members_at d set)

-- those that are not this one
abbrev pub without : ℕ → List ℕ → List ℕ
without x xs = filter (λ y. not (x == y)) xs

-- members, after an object was put behind them if it is not among them, or was taken out
abbrev pub changed_to : Bool → ℕ → List ℕ → List ℕ
changed_to true o members = if list_any (nat_eq o) members then members else (members ++ o ∷ [])
changed_to false o members = without o members

-- whether a change leaves members as they are: an object is put in that is among them, or taken out that is not
abbrev pub changes_nothing : Bool → ℕ → List ℕ → Bool
changes_nothing true o members = list_any (nat_eq o) members
changes_nothing false o members = not (list_any (nat_eq o) members)

-- the members of all sets, after one of them was changed so
abbrev pub with_change : Domain → Sets → Bool → ℕ → ℕ → Sets
with_change d sets add o set =
    if changes_nothing add o (members_in d sets set) then sets
    else slice_set sets set (Some (changed_to add o (members_in d sets set)))

-- the members of all sets, after one more entry
abbrev pub sets_next : Domain → Sets → Entry → Sets
sets_next d was (Start x s n a args) = was
sets_next d was (Post x t v a args) = was
sets_next d was (Wait x) = was
sets_next d was (Seen x rs) = was
sets_next d was (End x r) = was
sets_next d was (Kill x c) = was
sets_next d was (Insert x o set) = with_change d was true o set
sets_next d was (Remove x o set) = with_change d was false o set
sets_next d was (NoMember x set) = was

-- the members of all sets after a journal
abbrev pub sets_after : Domain → List Entry → Sets
sets_after d J = fold (sets_next d) (unchanged d) J

-- the members of a set after a journal
abbrev pub members_after : Domain → ℕ → List Entry → List ℕ
members_after d set J = members_in d (sets_after d J) set

-- the members of a set are objects of the domain, none of them twice
abbrev pub HasMembers : Domain → Sets → ℕ → Type 0
HasMembers d sets set = EachOnce (members_in d sets set) × All (IsObject d) (members_in d sets set)

-- so are those of each set
abbrev pub AreOf : Domain → Sets → Type 0
AreOf d sets = (set : ℕ) → HasMembers d sets set
