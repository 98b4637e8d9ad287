-- Whether a file has a fault of a kind that occurs in blocks alone, all such kinds in one.
use Rattle.std.specs.Prelude.{ℕ, Bool, true, false, ◌||◌, List, [], ◌∷◌, is_some, flat_map}
use Rattle.std.specs.List.{list_any}
use Rattle.sml_tree.specs.Syntax.{ItemData, class, object, group, ClassData, ActionData, SendData}
use Rattle.sml_check_faults.specs.declared.kind.CheckKind.{CheckKind}
use Rattle.sml_check_faults.specs.declared.kind.CheckKind.TheVariants.{Duplicate, NoState, TwoInitial, TwoDead, UnknownClass, UnknownObject, KindMismatch, ParamsDiffer, AssociatedBody}
use Rattle.sml_check_faults.specs.Sites.{Site, asks, tests, sets, ends, changes, block_sites}
use Rattle.sml_check_faults.specs.Lookup.{first_item, actions, objects_meant, of_set}
use Rattle.sml_check_faults.specs.Faults.{unknown_set, states_of_none, unknown_end, unknown_action, unknown_passed, set_unknown_param, missing_at, own_object}

-- the kinds whose faults may occur elsewhere, in the order of their numbers
abbrev pub others : List CheckKind
others = Duplicate ∷ NoState ∷ TwoInitial ∷ TwoDead ∷ UnknownClass ∷ UnknownObject ∷ KindMismatch ∷ ParamsDiffer
    ∷ AssociatedBody ∷ []

-- whether there is some name
abbrev pub has_some : List (List ℕ) → Bool
has_some names = is_some (first_item names)

-- whether a `do` is at fault, where these are its targets
abbrev pub is_faulty_send : List ItemData → ClassData → ActionData → SendData → List (List ℕ) → Bool
is_faulty_send file c a s objects =
    has_some (unknown_set file s.all s.target) || (has_some (unknown_action file s.action objects)
    || (has_some (flat_map (unknown_passed file s.action objects c a) s.args) || has_some
    (flat_map (missing_at file s.action s.args) objects)))

-- whether a test is, where it asks these objects about these states
abbrev pub is_faulty_test : List ItemData → ClassData → Bool → List ℕ → List (List ℕ) → List (List ℕ) → Bool
is_faulty_test file c set n states objects = has_some (unknown_set file set n) ||
    (has_some (states_of_none file objects states) || has_some (flat_map (own_object file c) objects))

-- whether a place of a block is
abbrev pub is_faulty_site : List ItemData → ClassData → ActionData → Site → Bool
is_faulty_site file c a (asks s) = is_faulty_send file c a s (objects_meant file s.all s.target)
is_faulty_site file c a (tests t) =
    is_faulty_test file c (of_set t.scope) t.name t.states (objects_meant file (of_set t.scope) t.name)
is_faulty_site file c a (sets n v) = has_some (set_unknown_param c a n v)
is_faulty_site file c a (ends s) = has_some (unknown_end c s)
is_faulty_site file c a (changes add member set) = has_some (unknown_set file true set)

-- whether the block of an action is
abbrev pub is_faulty_action : List ItemData → ClassData → ActionData → Bool
is_faulty_action file c a = list_any (is_faulty_site file c a) (block_sites a.body)

-- whether some block of a class is
abbrev pub is_faulty_item : List ItemData → ItemData → Bool
is_faulty_item file (class c) = list_any (is_faulty_action file c) (actions c)
is_faulty_item file (object o) = false
is_faulty_item file (group g) = false

-- whether some block of a file is
abbrev pub has_faulty_block : List ItemData → Bool
has_faulty_block file = list_any (is_faulty_item file) file
