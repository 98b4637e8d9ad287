-- What has the name of something of its kind before it.
use Rattle.std.specs.Prelude.{ℕ, Bool, false, ◌||◌, List, [], ◌∷◌, ◌++◌, is_some, flat_map}
use Rattle.std.specs.List.{list_any}
use Rattle.sml_tree.specs.Syntax.{PassedData, ItemData, class, object, group, ClassData, StateData, ActionData, ActionParamData, ClassParamData}
use Rattle.sml_check_faults.specs.Sites.{Site, asks, tests, sets, ends, changes, block_sites}
use Rattle.sml_check_faults.specs.Lookup.{named, among, where_so, is_state_named, is_action_named, is_class_param, is_action_param, is_passed, class_param_named}

-- what each of some things has, by it and those before it
abbrev pub each_after : {X : Type 0} → (List X → X → List (List ℕ)) → List X → List X → List (List ℕ)
each_after f before [] = []
each_after f before (x ∷ xs) = f before x ++ each_after f (before ++ x ∷ []) xs

-- a name that is among those before it
abbrev pub repeated_name : List (List ℕ) → List ℕ → List (List ℕ)
repeated_name before n = where_so (among before n) n

-- an argument of a request that has one of its name before it
abbrev pub repeated_passed : List PassedData → PassedData → List (List ℕ)
repeated_passed before p = where_so (list_any (is_passed p.name) before) p.name

-- what is repeated at one place of a block
abbrev pub repeated_site : Site → List (List ℕ)
repeated_site (asks s) = each_after repeated_passed [] s.args
repeated_site (tests t) = []
repeated_site (sets n v) = []
repeated_site (ends s) = []
repeated_site (changes add member set) = []

-- a parameter of a class that has one of its name before it
abbrev pub repeated_class_param : List ClassParamData → ClassParamData → List (List ℕ)
repeated_class_param before p = where_so (list_any (is_class_param p.name) before) p.name

-- a parameter of an action that is named as one of the class, or as one before it
abbrev pub repeated_action_param : ClassData → List ActionParamData → ActionParamData → List (List ℕ)
repeated_action_param c before p =
    where_so (is_some (class_param_named c p.name) || list_any (is_action_param p.name) before) p.name

-- what is repeated in an action: of its parameters, then in its block
abbrev pub repeated_in_action : ClassData → ActionData → List (List ℕ)
repeated_in_action c a = each_after (repeated_action_param c) [] a.params ++ flat_map repeated_site (block_sites a.body)

-- an action that has one of its name before it in its state, then what is repeated in it
abbrev pub repeated_action : ClassData → List ActionData → ActionData → List (List ℕ)
repeated_action c before a = where_so (list_any (is_action_named a.name) before) a.name ++ repeated_in_action c a

-- a state that has one of its name before it, then what is repeated in it
abbrev pub repeated_state : ClassData → List StateData → StateData → List (List ℕ)
repeated_state c before s =
    where_so (list_any (is_state_named s.name) before) s.name ++ each_after (repeated_action c) [] s.actions

-- what is repeated in a class: of its parameters, then of its states
abbrev pub repeated_in_class : ClassData → List (List ℕ)
repeated_in_class c = each_after repeated_class_param [] c.params ++ each_after (repeated_state c) [] c.states

-- whether an item is a class of this name
abbrev pub is_class_named : List ℕ → ItemData → Bool
is_class_named n (class c) = named n c.name
is_class_named n (object o) = false
is_class_named n (group g) = false

-- whether an item is an object of this name
abbrev pub is_object_named : List ℕ → ItemData → Bool
is_object_named n (class c) = false
is_object_named n (object o) = named n o.name
is_object_named n (group g) = false

-- whether an item is a set of this name
abbrev pub is_group : List ℕ → ItemData → Bool
is_group n (class c) = false
is_group n (object o) = false
is_group n (group g) = named n g.name

-- an item that has one of its kind and name before it, then what is repeated in it
abbrev pub repeated_item : List ItemData → ItemData → List (List ℕ)
repeated_item before (class c) = where_so (list_any (is_class_named c.name) before) c.name ++ repeated_in_class c
repeated_item before (object o) = where_so (list_any (is_object_named o.name) before) o.name
repeated_item before (group g) =
    where_so (list_any (is_group g.name) before) g.name ++ each_after repeated_name [] g.members
