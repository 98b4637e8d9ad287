-- The members of sets while they change.
use Rattle.std.proofs.Common.{◌≡◌, ◌<◌, ◌==◌, ℕ, zero, suc, Bool, true, false, cond, not, List, [], ◌∷◌, ◌++◌, All, length, map, filter, Some, slice_get, slice_set, refl, sym, ap, ◌∙◌, subst}
use Rattle.std.specs.Prelude.{nat_eq, if◌then◌else◌}
use Rattle.std.specs.List.{list_any}
use Rattle.std.specs.Option.{option_map_or}
use Rattle.std.proofs.lemmas.Bool.{eqb-true, eq-eqb, or_parts, or_from}
use Rattle.std.proofs.lemmas.List.Elements.{All-filter, All-append, All-cons, All-nil}
use Rattle.sml_domain.specs.Domain.{Domain, Group}
use Rattle.sml_domain.specs.Lookups.{members_at}
use Rattle.sml_domain.specs.Sound.{IsObject, EachOnce}
use Rattle.sml_domain.proofs.Setted.{members_once, members_there}
use Rattle.smi_journal_entries.specs.Sets.{Sets, as_declared, or_declared, members_in, changed_to, changes_nothing, with_change}
use Rattle.smi_journal_entries.specs.Laws.{BeginDeclared, BeginOf, ChangesAreOf}

-- ---- before any change

none_yet : (declared : List ℕ) (groups : List Group) (set : ℕ) → option_map_or (or_declared declared) (slice_get (map as_declared groups) set) declared ≡ declared
none_yet declared [] set = refl
none_yet declared (g ∷ groups) zero = refl
none_yet declared (g ∷ groups) (suc set) = none_yet declared groups set

pub begin_declared : BeginDeclared
begin_declared d set = none_yet (members_at d set) d.groups set

-- members that differ, and are objects
abbrev AreMembers : Domain → List ℕ → Type 0
AreMembers d members = EachOnce members × All (IsObject d) members

pub begin_of : BeginOf
begin_of d sound set = subst (AreMembers d) (sym (begin_declared d set)) (members_once d set sound, members_there d set sound)

-- ---- one change

-- nothing passes of what is left of a list
none_left : (test : ℕ → Bool) (x : ℕ) (members : List ℕ) → list_any (nat_eq x) members ≡ false → list_any (nat_eq x) (filter test members) ≡ false
none_left test x [] h = refl
none_left test x (y ∷ members) h =
    let p = or_parts (nat_eq x y) (list_any (nat_eq x) members) h in
    go (test y) p.0 (none_left test x members p.1)
  where
    go : (b : Bool) → nat_eq x y ≡ false → list_any (nat_eq x) (filter test members) ≡ false → list_any (nat_eq x) (cond b (y ∷ filter test members) (filter test members)) ≡ false
    go true u ih = or_from (nat_eq x y) (list_any (nat_eq x) (filter test members)) u ih
    go false u ih = ih

once_left : (test : ℕ → Bool) (members : List ℕ) → EachOnce members → EachOnce (filter test members)
once_left test [] h = tt
once_left test (x ∷ members) h =
    go (test x) (once_left test members h.1)
  where
    go : (b : Bool) → EachOnce (filter test members) → EachOnce (cond b (x ∷ filter test members) (filter test members))
    go true ih = (none_left test x members h.0, ih)
    go false ih = ih

-- two numbers differ either way round
other_way : (x y : ℕ) → nat_eq x y ≡ false → nat_eq y x ≡ false
other_way x y h =
    go (nat_eq y x) refl
  where
    go : (b : Bool) → nat_eq y x ≡ b → b ≡ false
    go false e = refl
    go true e = let same : y ≡ x = eqb-true y x e in absurd (cc (sym (eq-eqb x y (sym same)) ∙ h))

none_behind : (x o : ℕ) (members : List ℕ) → list_any (nat_eq x) members ≡ false → nat_eq x o ≡ false → list_any (nat_eq x) (members ++ o ∷ []) ≡ false
none_behind x o [] h e = or_from (nat_eq x o) false e refl
none_behind x o (y ∷ members) h e =
    let p = or_parts (nat_eq x y) (list_any (nat_eq x) members) h in
    or_from (nat_eq x y) (list_any (nat_eq x) (members ++ o ∷ [])) p.0 (none_behind x o members p.1 e)

once_behind : (o : ℕ) (members : List ℕ) → EachOnce members → list_any (nat_eq o) members ≡ false → EachOnce (members ++ o ∷ [])
once_behind o [] h e = (refl, tt)
once_behind o (x ∷ members) h e =
    let p = or_parts (nat_eq o x) (list_any (nat_eq o) members) e in
    (none_behind x o members h.0 (other_way o x p.0), once_behind o members h.1 p.1)

changed_are : (d : Domain) (add : Bool) (o : ℕ) (members : List ℕ) → o < length d.objects → AreMembers d members → AreMembers d (changed_to add o members)
changed_are d false o members lt h = (once_left (λ y. not (o == y)) members h.0, All-filter (λ y. not (o == y)) (IsObject d) members h.1)
changed_are d true o members lt h =
    go (list_any (nat_eq o) members) refl
  where
    go : (b : Bool) → list_any (nat_eq o) members ≡ b → AreMembers d (cond b members (members ++ o ∷ []))
    go true e = h
    go false e = (once_behind o members h.0 e, All-append (IsObject d) members (o ∷ []) h.1 (All-cons (IsObject d) o [] lt (All-nil (IsObject d))))

-- what is so of the members of a set is so after one set was written
pub set_written : (P : List ℕ → Type 0) (declared : List ℕ) (sets : Sets) (set other : ℕ) (members : List ℕ) → P (option_map_or (or_declared declared) (slice_get sets other) declared) → (set ≡ other → P members)
    → P (option_map_or (or_declared declared) (slice_get (slice_set sets set (Some members)) other) declared)
set_written P declared [] set other members h g = h
set_written P declared (s ∷ sets) zero zero members h g = g refl
set_written P declared (s ∷ sets) zero (suc other) members h g = h
set_written P declared (s ∷ sets) (suc set) zero members h g = h
set_written P declared (s ∷ sets) (suc set) (suc other) members h g = set_written P declared sets set other members h (λ e. g (ap suc e))

-- what is so of the members of a set is so after a change, if it is so of those that were changed
pub change_written : (P : List ℕ → Type 0) (d : Domain) (sets : Sets) (add : Bool) (o set other : ℕ)
    → P (members_in d sets other) → (set ≡ other → P (changed_to add o (members_in d sets set)))
    → P (members_in d (with_change d sets add o set) other)
change_written P d sets add o set other h g =
    go (changes_nothing add o (members_in d sets set))
  where
    changed : Sets
    changed = slice_set sets set (Some (changed_to add o (members_in d sets set)))

    go : (b : Bool) → P (members_in d (if b then sets else changed) other)
    go true = h
    go false = set_written P (members_at d other) sets set other (changed_to add o (members_in d sets set)) h g

pub changes_are_of : ChangesAreOf
changes_are_of d sets add o set lt h other =
    change_written (AreMembers d) d sets add o set other (h other)
    (λ e. changed_are d add o (members_in d sets set) lt (h set))
