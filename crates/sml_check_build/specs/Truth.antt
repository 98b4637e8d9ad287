-- The truth of a condition as a file says it, over states that were read of objects, all by their names.
use Rattle.std.specs.Prelude.{◌≡◌, ◌<◌, ℕ, Bool, false, ◌&&◌, ◌||◌, not, List, Option, None, Some, length, slice_get, if◌then◌else◌}
use Rattle.std.specs.List.{Contains, list_any, list_all}
use Rattle.std.specs.Option.{option_and_then}
use Rattle.sml_tree.specs.declared.cond.Scope.{Scope}
use Rattle.sml_tree.specs.declared.cond.Scope.TheVariants.{One, All, Any}
use Rattle.sml_tree.specs.Syntax.{CondData, both, either, neither, test, ItemData, ClassData, ActionData}
use Rattle.sml_check_faults.specs.Lookup.{among, group_named, members_of}
use Rattle.sml_check_faults.specs.Sites.{Site, cond_sites}
use Rattle.sml_check_faults.specs.Inside.{HasSite}
use Rattle.sml_domain.specs.Domain.{Domain}
use Rattle.sml_domain.specs.Lookups.{object_named}

-- whether a state that was read is one of these
abbrev pub is_among_names : List (List ℕ) → Option (List ℕ) → Bool
is_among_names states None = false
is_among_names states (Some s) = among states s

-- what a test answers for an object in a state: whether it is one of these; of a negated test, whether it is not
abbrev pub is_one_of_names : Bool → List (List ℕ) → Option (List ℕ) → Bool
is_one_of_names negated states s = if negated then not (is_among_names states s) else is_among_names states s

-- the members of a set, as the file declares it
abbrev pub members_named : List ItemData → List ℕ → List (List ℕ)
members_named file set = members_of (group_named file set)

-- a question to those whom a test asks: to the object, or to each or any member of the set
abbrev pub asks_names : List ItemData → Scope → List ℕ → (List ℕ → Bool) → Bool
asks_names file One name question = question name
asks_names file All name question = list_all question (members_named file name)
asks_names file Any name question = list_any question (members_named file name)

-- whether a condition is true, by the states that were read of objects
abbrev pub holds_in : List ItemData → (List ℕ → Option (List ℕ)) → CondData → Bool
holds_in file read (both c d) = holds_in file read c && holds_in file read d
holds_in file read (either c d) = holds_in file read c || holds_in file read d
holds_in file read (neither c) = not (holds_in file read c)
holds_in file read (test t) = asks_names file t.scope t.name (λ o. is_one_of_names t.negated t.states (read o))

-- ---- readings by number

-- each state that was read of an object of a domain is a state name of it
abbrev pub AreStateNames : Domain → (ℕ → Option ℕ) → Type 0
AreStateNames d read = (o s : ℕ) → o < length d.objects → read o ≡ Some s → s < length d.states

-- the name of the state that was read of the object of a name
abbrev pub by_names : Domain → (ℕ → Option ℕ) → List ℕ → Option (List ℕ)
by_names d read name = option_and_then (slice_get d.states) (option_and_then read (object_named d name))

-- the tests of a condition are in an action of a class of a file
abbrev pub IsCondOf : List ItemData → ClassData → ActionData → CondData → Type 0
IsCondOf file c a f = (s : Site) → Contains (cond_sites f) s → HasSite file c a s
