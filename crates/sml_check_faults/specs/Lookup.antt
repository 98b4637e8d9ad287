-- What names mean in a file.
use Rattle.std.specs.Prelude.{ℕ, Bool, true, false, ◌&&◌, ◌||◌, not, List, [], ◌∷◌, ◌++◌, Option, None, Some, is_some, if◌then◌else◌, codes, flat_map, fold, nat_eq}
use Rattle.std.specs.List.{list_any, find}
use Rattle.std.specs.Cmp.Lexicographic.{pointwise}
use Rattle.sml_tree.specs.declared.cond.Scope.{Scope}
use Rattle.sml_tree.specs.declared.cond.Scope.TheVariants.{One, All, Any}
use Rattle.sml_tree.specs.Syntax.{ItemData, class, object, group, ClassData, ObjectData, GroupData, StateData, ActionData, ActionParamData, ClassParamData, PassedData}
use Rattle.sml_check_faults.specs.Sites.{Site, changes, block_sites}

-- whether two names are the same
abbrev pub named : List ℕ → List ℕ → Bool
named n m = pointwise nat_eq n m

-- whether a name is among others
abbrev pub among : List (List ℕ) → List ℕ → Bool
among names n = list_any (named n) names

-- the first of some things
abbrev pub first_item : {X : Type 0} → List X → Option X
first_item [] = None
first_item (x ∷ xs) = Some x

-- a name, if something is so
abbrev pub where_so : Bool → List ℕ → List (List ℕ)
where_so b n = if b then n ∷ [] else []

-- ---- items

-- the first class of a name
abbrev pub file_class_named : List ItemData → List ℕ → Option ClassData
file_class_named [] n = None
file_class_named (class c ∷ items) n = if named n c.name then Some c else file_class_named items n
file_class_named (object o ∷ items) n = file_class_named items n
file_class_named (group g ∷ items) n = file_class_named items n

-- the first object of a name
abbrev pub file_object_named : List ItemData → List ℕ → Option ObjectData
file_object_named [] n = None
file_object_named (class c ∷ items) n = file_object_named items n
file_object_named (object o ∷ items) n = if named n o.name then Some o else file_object_named items n
file_object_named (group g ∷ items) n = file_object_named items n

-- the first set of a name
abbrev pub group_named : List ItemData → List ℕ → Option GroupData
group_named [] n = None
group_named (class c ∷ items) n = group_named items n
group_named (object o ∷ items) n = group_named items n
group_named (group g ∷ items) n = if named n g.name then Some g else group_named items n

-- the class of an object, if both are declared
abbrev pub class_of_object : List ItemData → Option ObjectData → Option ClassData
class_of_object file None = None
class_of_object file (Some o) = file_class_named file o.class

-- the class of the object of a name
abbrev pub class_of : List ItemData → List ℕ → Option ClassData
class_of file n = class_of_object file (file_object_named file n)

-- the members of a set; empty if it is not declared
abbrev pub members_of : Option GroupData → List (List ℕ)
members_of None = []
members_of (Some g) = g.members

-- whether a test asks a set
abbrev pub of_set : Scope → Bool
of_set One = false
of_set All = true
of_set Any = true

-- ---- states

-- the name of the state that is added
abbrev pub dead_name : List ℕ
dead_name = codes "DEAD"

-- whether a state has this name
abbrev pub is_state_named : List ℕ → StateData → Bool
is_state_named n s = named n s.name

-- whether a state is marked as the dead one, or has its name
abbrev pub is_dead : StateData → Bool
is_dead s = s.dead || named dead_name s.name

-- whether the state `DEAD` is added to a class
abbrev pub adds_dead : ClassData → Bool
adds_dead c = not (list_any is_dead c.states)

-- whether a class has a state, the added one included
abbrev pub has_state_named : ClassData → List ℕ → Bool
has_state_named c n = list_any (is_state_named n) c.states || (adds_dead c && named n dead_name)

-- ---- actions

-- the actions of a state
abbrev pub actions_of : StateData → List ActionData
actions_of s = s.actions

-- the actions of a class in the order of the text
abbrev pub actions : ClassData → List ActionData
actions c = flat_map actions_of c.states

-- whether an action has this name
abbrev pub is_action_named : List ℕ → ActionData → Bool
is_action_named n a = named n a.name

-- an action of a class, as the first state that declares it does
abbrev pub file_action_named : ClassData → List ℕ → Option ActionData
file_action_named c n = find (is_action_named n) (actions c)

-- an action of a class, if there is one
abbrev pub action_in_class : Option ClassData → List ℕ → Option ActionData
action_in_class None n = None
action_in_class (Some c) n = file_action_named c n

-- an action of an object's class
abbrev pub action_of : List ItemData → List ℕ → List ℕ → Option ActionData
action_of file n o = action_in_class (class_of file o) n

-- ---- what sets may come to have

-- what an action names
abbrev pub action_sites : ActionData → List Site
action_sites a = block_sites a.body

-- what the actions of an item name
abbrev pub item_sites : ItemData → List Site
item_sites (class c) = flat_map action_sites (actions c)
item_sites (object o) = []
item_sites (group g) = []

-- what all actions of some items name, in the order of the text
abbrev pub sites_in : List ItemData → List Site
sites_in items = flat_map item_sites items

-- whether a file declares an object of this name
abbrev pub has_object : List ItemData → List ℕ → Bool
has_object file n = is_some (file_object_named file n)

-- the object that a place of a block adds to a set of this name: that of an `insert` into it, if it is declared
abbrev pub inserted_at : List ItemData → List ℕ → Site → List (List ℕ)
inserted_at file n (changes true member set) = where_so (has_object file member && named n set) member
inserted_at file n site = []

-- those that an `insert` anywhere adds to a set of this name, in the order of the text
abbrev pub inserted_in : List ItemData → List ℕ → List (List ℕ)
inserted_in file n = flat_map (inserted_at file n) (sites_in file)

-- some names and one more, unless it is among them
abbrev pub with_name : List (List ℕ) → List ℕ → List (List ℕ)
with_name names n = if among names n then names else names ++ n ∷ []

-- the objects that a set of this name may come to have: its members, then those that are inserted anywhere, each once
abbrev pub may_have : List ItemData → List ℕ → Option GroupData → List (List ℕ)
may_have file n None = []
may_have file n (Some g) = fold with_name g.members (inserted_in file n)

-- the objects that a name means: behind `all_in` or `any_in` all that the set may come to have, else the one named so
abbrev pub objects_meant : List ItemData → Bool → List ℕ → List (List ℕ)
objects_meant file false n = n ∷ []
objects_meant file true n = may_have file n (group_named file n)

-- ---- parameters

-- whether a parameter of a class has this name
abbrev pub is_class_param : List ℕ → ClassParamData → Bool
is_class_param n p = named n p.name

-- whether a parameter of an action has this name
abbrev pub is_action_param : List ℕ → ActionParamData → Bool
is_action_param n p = named n p.name

-- whether an argument has this name
abbrev pub is_passed : List ℕ → PassedData → Bool
is_passed n p = named n p.name

-- the parameter of a class of a name
abbrev pub class_param_named : ClassData → List ℕ → Option ClassParamData
class_param_named c n = find (is_class_param n) c.params

-- the parameter of an action of a name
abbrev pub action_param_named : ActionData → List ℕ → Option ActionParamData
action_param_named a n = find (is_action_param n) a.params
