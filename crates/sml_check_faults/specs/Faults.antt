-- What can be wrong with the names in a block.
use Rattle.std.specs.Prelude.{ℕ, Bool, false, ◌&&◌, ◌||◌, not, List, [], ◌∷◌, ◌++◌, Option, None, Some, is_some, option_map, flat_map}
use Rattle.std.specs.List.{list_any}
use Rattle.sml_tree.specs.declared.file.Kind.{Kind}
use Rattle.sml_tree.specs.declared.file.Kind.TheVariants.{Int, Str}
use Rattle.sml_tree.specs.Syntax.{LiteralData, int, str, ArgData, lit, param, PassedData, ItemData, ClassData, ObjectData, ActionData, ActionParamData, ClassParamData}
use Rattle.sml_check_faults.specs.Lookup.{named, where_so, action_of, class_of, file_object_named, group_named, has_state_named, is_passed, class_param_named, action_param_named}
use Rattle.sml_tree.specs.Kinds.{same_kind}

-- ---- UnknownObject

-- a name without `all_in` or `any_in` that is not an object's
abbrev pub unknown_object : List ItemData → Bool → List ℕ → List (List ℕ)
unknown_object file set n = where_so (not set && not (is_some (file_object_named file n))) n

-- ---- UnknownSet

-- a name behind `all_in` or `any_in` that is not a set's
abbrev pub unknown_set : List ItemData → Bool → List ℕ → List (List ℕ)
unknown_set file set n = where_so (set && not (is_some (group_named file n))) n

-- ---- UnknownState

-- whether there is a class, and it has a state
abbrev pub has_state_there : List ℕ → Option ClassData → Bool
has_state_there s None = false
has_state_there s (Some c) = has_state_named c s

-- whether the class of an object has a state
abbrev pub object_has_state : List ItemData → List ℕ → List ℕ → Bool
object_has_state file s o = has_state_there s (class_of file o)

-- a state that none of some objects has
abbrev pub state_of_none : List ItemData → List (List ℕ) → List ℕ → List (List ℕ)
state_of_none file objects s = where_so (not (list_any (object_has_state file s) objects)) s

-- the states of a test that none of its objects has; a test of no objects is not looked at
abbrev pub states_of_none : List ItemData → List (List ℕ) → List (List ℕ) → List (List ℕ)
states_of_none file [] states = []
states_of_none file (o ∷ objects) states = flat_map (state_of_none file (o ∷ objects)) states

-- an end in a state that the class does not have
abbrev pub unknown_end : ClassData → List ℕ → List (List ℕ)
unknown_end c s = where_so (not (has_state_named c s)) s

-- ---- UnknownAction

-- whether the class of an object declares an action in no state
abbrev pub lacks_action : List ItemData → List ℕ → List ℕ → Bool
lacks_action file n o = not (is_some (action_of file n o))

-- an action that some of its targets lack
abbrev pub unknown_action : List ItemData → List ℕ → List (List ℕ) → List (List ℕ)
unknown_action file n objects = where_so (list_any (lacks_action file n) objects) n

-- ---- UnknownParam

-- a value that names something that is not a parameter of the class or the action
abbrev pub unknown_value : ClassData → ActionData → ArgData → List (List ℕ)
unknown_value c a (lit l) = []
unknown_value c a (param n) = where_so (not (is_some (class_param_named c n) || is_some (action_param_named a n))) n

-- whether there is an action, and it lacks a parameter
abbrev pub lacks_param : List ℕ → Option ActionData → Bool
lacks_param n None = false
lacks_param n (Some a) = not (is_some (action_param_named a n))

-- whether an action lacks a parameter at an object
abbrev pub lacks_param_there : List ItemData → List ℕ → List ℕ → List ℕ → Bool
lacks_param_there file action n o = lacks_param n (action_of file action o)

-- an argument: its name, if the action lacks it at some target, then its value
abbrev pub unknown_passed : List ItemData → List ℕ → List (List ℕ) → ClassData → ActionData → PassedData → List (List ℕ)
unknown_passed file action objects c a p =
    where_so (list_any (lacks_param_there file action p.name) objects) p.name ++ unknown_value c a p.value

-- a `set`: its name, if it is not a parameter of the class, then its value
abbrev pub set_unknown_param : ClassData → ActionData → List ℕ → ArgData → List (List ℕ)
set_unknown_param c a n v = where_so (not (is_some (class_param_named c n))) n ++ unknown_value c a v

-- ---- KindMismatch

-- the kind of a value that is written out
abbrev pub literal_kind : LiteralData → Kind
literal_kind (int n) = Int
literal_kind (str s) = Str

-- the kind of the parameter of a class
abbrev pub class_param_kind : ClassParamData → Kind
class_param_kind p = p.kind

-- the kind of the parameter of an action
abbrev pub action_param_kind : ActionParamData → Kind
action_param_kind p = p.kind

-- the kind of a parameter of the class, or else of the action
abbrev pub kind_there : Option ClassParamData → Option ActionParamData → Option Kind
kind_there (Some p) q = Some p.kind
kind_there None (Some q) = Some q.kind
kind_there None None = None

-- the kind of a value
abbrev pub arg_kind : ClassData → ActionData → ArgData → Option Kind
arg_kind c a (lit l) = Some (literal_kind l)
arg_kind c a (param n) = kind_there (class_param_named c n) (action_param_named a n)

-- whether two kinds are known and differ
abbrev pub kinds_differ : Option Kind → Option Kind → Bool
kinds_differ None k = false
kinds_differ (Some j) None = false
kinds_differ (Some j) (Some k) = not (same_kind j k)

-- the kind of an action's parameter, if there are both
abbrev pub file_param_kind : List ℕ → Option ActionData → Option Kind
file_param_kind n None = None
file_param_kind n (Some a) = option_map action_param_kind (action_param_named a n)

-- whether a parameter of an action has another kind at an object
abbrev pub other_kind_there : List ItemData → List ℕ → Option Kind → List ℕ → List ℕ → Bool
other_kind_there file action k n o = kinds_differ (file_param_kind n (action_of file action o)) k

-- whether an argument has another kind than its parameter at some target
abbrev pub is_mismatched : List ItemData → List ℕ → List (List ℕ) → ClassData → ActionData → PassedData → Bool
is_mismatched file action objects c a p = list_any (other_kind_there file action (arg_kind c a p.value) p.name) objects

-- an argument of another kind than its parameter
abbrev pub mismatched : List ItemData → List ℕ → List (List ℕ) → ClassData → ActionData → PassedData → List (List ℕ)
mismatched file action objects c a p = where_so (is_mismatched file action objects c a p) p.name

-- the parameter of a `set` that has another kind than its value
abbrev pub set_mismatch : ClassData → ActionData → List ℕ → ArgData → List (List ℕ)
set_mismatch c a n v = where_so (kinds_differ (option_map class_param_kind (class_param_named c n)) (arg_kind c a v)) n

-- ---- MissingArg

-- a parameter with no default and no argument
abbrev pub missing_param : List PassedData → ActionParamData → List (List ℕ)
missing_param args p = where_so (not (is_some p.default) && not (list_any (is_passed p.name) args)) p.name

-- the parameters of an action that get nothing
abbrev pub missing_params : List PassedData → Option ActionData → List (List ℕ)
missing_params args None = []
missing_params args (Some a) = flat_map (missing_param args) a.params

-- the parameters of an action at an object that get nothing, in the order of the list
abbrev pub missing_at : List ItemData → List ℕ → List PassedData → List ℕ → List (List ℕ)
missing_at file action args o = missing_params args (action_of file action o)

-- ---- SelfInCondition

-- whether there is an object, and it is of a class
abbrev pub is_of_class : ClassData → Option ObjectData → Bool
is_of_class c None = false
is_of_class c (Some o) = named c.name o.class

-- an object of this class
abbrev pub own_object : List ItemData → ClassData → List ℕ → List (List ℕ)
own_object file c o = where_so (is_of_class c (file_object_named file o)) o
