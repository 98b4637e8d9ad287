-- What can be wrong with a class, an action, an object or a set outside of blocks.
use Rattle.std.specs.Prelude.{ℕ, Bool, true, false, ◌&&◌, not, List, [], ◌∷◌, Option, None, Some, is_some, option_map, flat_map, if◌then◌else◌}
use Rattle.std.specs.List.{list_any}
use Rattle.std.specs.Ordering.{int_eq}
use Rattle.sml_tree.specs.Syntax.{LiteralData, int, str, BlockData, done, step, ItemData, class, object, group, ClassData, ObjectData, GroupData, StateData, ActionData, ActionParamData, ClassParamData}
use Rattle.sml_check_faults.specs.Lookup.{named, where_so, file_class_named, action_in_class, actions}
use Rattle.sml_check_faults.specs.Faults.{literal_kind, kinds_differ, unknown_object}
use Rattle.sml_tree.specs.Kinds.{same_kind}

-- ---- NoState

-- whether a list is empty
abbrev pub is_nil : {X : Type 0} → List X → Bool
is_nil [] = true
is_nil (x ∷ xs) = false

-- a class without states
abbrev pub stateless : ClassData → List (List ℕ)
stateless c = where_so (is_nil c.states) c.name

-- ---- TwoInitial, TwoDead

-- whether more than one of some things passes a test
abbrev pub has_two : {X : Type 0} → (X → Bool) → List X → Bool
has_two p [] = false
has_two p (x ∷ xs) = if p x then list_any p xs else has_two p xs

-- whether a state has the mark of the initial one
abbrev pub is_initial : StateData → Bool
is_initial s = s.initial

-- whether a state has the mark of the dead one
abbrev pub is_marked_dead : StateData → Bool
is_marked_dead s = s.dead

-- whether a state has the mark of the dead one, or that of the initial one
abbrev pub has_mark : Bool → StateData → Bool
has_mark dead s = if dead then s.dead else s.initial

-- a class with two states marked as initial
abbrev pub two_initial : ClassData → List (List ℕ)
two_initial c = where_so (has_two is_initial c.states) c.name

-- a class with two states marked as dead
abbrev pub two_dead : ClassData → List (List ℕ)
two_dead c = where_so (has_two is_marked_dead c.states) c.name

-- ---- UnknownClass

-- the class of an object that is not declared
abbrev pub unknown_class : List ItemData → ObjectData → List (List ℕ)
unknown_class file o = where_so (not (is_some (file_class_named file o.class))) o.class

-- ---- UnknownObject

-- the members of a set that are not declared
abbrev pub unknown_members : List ItemData → GroupData → List (List ℕ)
unknown_members file g = flat_map (unknown_object file false) g.members

-- ---- KindMismatch

-- a parameter of a class whose default is of another kind
abbrev pub class_param_mismatch : ClassParamData → List (List ℕ)
class_param_mismatch p = where_so (not (same_kind p.kind (literal_kind p.value))) p.name

-- a parameter of an action whose default is of another kind
abbrev pub action_param_mismatch : ActionParamData → List (List ℕ)
action_param_mismatch p = where_so (kinds_differ (Some p.kind) (option_map literal_kind p.default)) p.name

-- ---- ParamsDiffer

-- whether two values are the same
abbrev pub same_literal : LiteralData → LiteralData → Bool
same_literal (int n) (int m) = int_eq n m
same_literal (int n) (str t) = false
same_literal (str s) (int m) = false
same_literal (str s) (str t) = named s t

-- whether two defaults are the same
abbrev pub same_default : Option LiteralData → Option LiteralData → Bool
same_default None None = true
same_default None (Some m) = false
same_default (Some l) None = false
same_default (Some l) (Some m) = same_literal l m

-- whether two parameters have the same kind, name and default
abbrev pub same_param : ActionParamData → ActionParamData → Bool
same_param p q = same_kind p.kind q.kind && named p.name q.name && same_default p.default q.default

-- whether two lists have the same parameters in the same order
abbrev pub same_params : List ActionParamData → List ActionParamData → Bool
same_params [] [] = true
same_params [] (q ∷ qs) = false
same_params (p ∷ ps) [] = false
same_params (p ∷ ps) (q ∷ qs) = same_param p q && same_params ps qs

-- whether an action has another list than the first one of its name
abbrev pub differs : Option ActionData → ActionData → Bool
differs None a = false
differs (Some b) a = not (same_params b.params a.params)

-- an action whose list differs from that of the first state of the class that declares it
abbrev pub other_params : Option ClassData → ActionData → List (List ℕ)
other_params c a = where_so (differs (action_in_class c a.name) a) a.name

-- the actions of an item that differ so
abbrev pub differing : ItemData → List (List ℕ)
differing (class c) = flat_map (other_params (Some c)) (actions c)
differing (object o) = []
differing (group g) = []

-- ---- AssociatedBody

-- whether there are instructions
abbrev pub has_body : BlockData → Bool
has_body done = false
has_body (step i rest) = true

-- an action with instructions in an associated class
abbrev pub associated_body : ClassData → ActionData → List (List ℕ)
associated_body c a = where_so (c.associated && has_body a.body) a.name
