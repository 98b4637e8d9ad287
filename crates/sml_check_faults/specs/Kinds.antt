-- All faults of a file: by their numbers, and of one number in the order of the text.
use Rattle.std.specs.Prelude.{◌≡◌, ℕ, Bool, true, false, List, [], ◌∷◌, ◌++◌, map, flat_map}
use Rattle.sml_tree.specs.Syntax.{ItemData, class, object, group, ClassData, ObjectData, GroupData, ActionData, SendData, ArgData}
use Rattle.sml_check_faults.specs.declared.kind.CheckKind.{CheckKind}
use Rattle.sml_check_faults.specs.declared.kind.CheckKind.TheVariants.{Duplicate, NoState, TwoInitial, TwoDead, UnknownClass, UnknownObject, UnknownSet, UnknownState, UnknownAction, UnknownParam, KindMismatch, MissingArg, ParamsDiffer, SelfInCondition, AssociatedBody, Memory}
use Rattle.sml_check_faults.specs.Sites.{Site, asks, tests, sets, ends, changes, block_sites}
use Rattle.sml_check_faults.specs.Lookup.{actions, objects_meant, of_set}
use Rattle.sml_check_faults.specs.Repeats.{each_after, repeated_item, repeated_passed}
use Rattle.sml_check_faults.specs.Faults.{unknown_object, unknown_set, states_of_none, unknown_end, unknown_action, unknown_passed, set_unknown_param, mismatched, set_mismatch, missing_at, own_object}
use Rattle.sml_check_faults.specs.Heads.{stateless, two_initial, two_dead, unknown_class, unknown_members, class_param_mismatch, action_param_mismatch, differing, associated_body}

-- ---- in a block

-- the faults of a kind at a `do`, where these are its targets
abbrev pub send_faults : CheckKind → List ItemData → ClassData → ActionData → SendData → List (List ℕ) → List (List ℕ)
send_faults Duplicate file c a s objects = each_after repeated_passed [] s.args
send_faults UnknownObject file c a s objects = unknown_object file s.all s.target
send_faults UnknownSet file c a s objects = unknown_set file s.all s.target
send_faults UnknownAction file c a s objects = unknown_action file s.action objects
send_faults UnknownParam file c a s objects = flat_map (unknown_passed file s.action objects c a) s.args
send_faults KindMismatch file c a s objects = flat_map (mismatched file s.action objects c a) s.args
send_faults MissingArg file c a s objects = flat_map (missing_at file s.action s.args) objects
send_faults kind file c a s objects = []

-- the faults of a kind at a test or a `wait`, where it asks a set or an object of this name about these states
abbrev pub test_faults : CheckKind → List ItemData → ClassData → Bool → List ℕ → List (List ℕ) → List (List ℕ)
test_faults UnknownObject file c set n states = unknown_object file set n
test_faults UnknownSet file c set n states = unknown_set file set n
test_faults UnknownState file c set n states = states_of_none file (objects_meant file set n) states
test_faults SelfInCondition file c set n states = flat_map (own_object file c) (objects_meant file set n)
test_faults kind file c set n states = []

-- the faults of a kind at a `set`
abbrev pub set_faults : CheckKind → ClassData → ActionData → List ℕ → ArgData → List (List ℕ)
set_faults UnknownParam c a n v = set_unknown_param c a n v
set_faults KindMismatch c a n v = set_mismatch c a n v
set_faults kind c a n v = []

-- the faults of a kind at a state in which an action ends
abbrev pub end_faults : CheckKind → ClassData → List ℕ → List (List ℕ)
end_faults UnknownState c s = unknown_end c s
end_faults kind c s = []

-- the faults of a kind at an `insert` or a `remove`
abbrev pub change_faults : CheckKind → List ItemData → List ℕ → List ℕ → List (List ℕ)
change_faults UnknownObject file member set = unknown_object file false member
change_faults UnknownSet file member set = unknown_set file true set
change_faults kind file member set = []

-- the faults of a kind at one place of a block
abbrev pub site_faults : CheckKind → List ItemData → ClassData → ActionData → Site → List (List ℕ)
site_faults kind file c a (asks s) = send_faults kind file c a s (objects_meant file s.all s.target)
site_faults kind file c a (tests t) = test_faults kind file c (of_set t.scope) t.name t.states
site_faults kind file c a (sets n v) = set_faults kind c a n v
site_faults kind file c a (ends s) = end_faults kind c s
site_faults kind file c a (changes add member set) = change_faults kind file member set

-- whether a kind has faults in blocks
abbrev pub stands_in_blocks : CheckKind → Bool
stands_in_blocks NoState = false
stands_in_blocks TwoInitial = false
stands_in_blocks TwoDead = false
stands_in_blocks UnknownClass = false
stands_in_blocks ParamsDiffer = false
stands_in_blocks AssociatedBody = false
stands_in_blocks Memory = false
stands_in_blocks kind = true

-- ---- in an item

-- the faults of a kind at an action, before those in its block
abbrev pub action_head : CheckKind → ClassData → ActionData → List (List ℕ)
action_head KindMismatch c a = flat_map action_param_mismatch a.params
action_head AssociatedBody c a = associated_body c a
action_head kind c a = []

-- the faults of a kind in an action
abbrev pub action_faults : CheckKind → List ItemData → ClassData → ActionData → List (List ℕ)
action_faults kind file c a = action_head kind c a ++ flat_map (site_faults kind file c a) (block_sites a.body)

-- the faults of a kind at a class, before those in its actions
abbrev pub class_head : CheckKind → ClassData → List (List ℕ)
class_head NoState c = stateless c
class_head TwoInitial c = two_initial c
class_head TwoDead c = two_dead c
class_head KindMismatch c = flat_map class_param_mismatch c.params
class_head kind c = []

-- the faults of a kind in a class
abbrev pub class_faults : CheckKind → List ItemData → ClassData → List (List ℕ)
class_faults kind file c = class_head kind c ++ flat_map (action_faults kind file c) (actions c)

-- the faults of a kind at an object
abbrev pub object_faults : CheckKind → List ItemData → ObjectData → List (List ℕ)
object_faults UnknownClass file o = unknown_class file o
object_faults kind file o = []

-- the faults of a kind at a set
abbrev pub group_faults : CheckKind → List ItemData → GroupData → List (List ℕ)
group_faults UnknownObject file g = unknown_members file g
group_faults kind file g = []

-- the faults of a kind at an item
abbrev pub item_faults : CheckKind → List ItemData → ItemData → List (List ℕ)
item_faults kind file (class c) = class_faults kind file c
item_faults kind file (object o) = object_faults kind file o
item_faults kind file (group g) = group_faults kind file g

-- ---- in a file

-- the names of the faults of a kind, in the order of the text
abbrev pub faults_of : CheckKind → List ItemData → List (List ℕ)
faults_of Duplicate file = each_after repeated_item [] file
faults_of ParamsDiffer file = flat_map differing file
faults_of kind file = flat_map (item_faults kind file) file

-- the kinds in the order of their numbers
abbrev pub kinds : List CheckKind
kinds = Duplicate ∷ NoState ∷ TwoInitial ∷ TwoDead ∷ UnknownClass ∷ UnknownObject ∷ UnknownSet ∷ UnknownState
    ∷ UnknownAction
    ∷ UnknownParam ∷ KindMismatch ∷ MissingArg ∷ ParamsDiffer ∷ SelfInCondition ∷ AssociatedBody ∷ []

-- each fault of a kind with its kind
abbrev pub with_kind : List ItemData → CheckKind → List (CheckKind × List ℕ)
with_kind file kind = map (λ n. (kind, n)) (faults_of kind file)

-- all faults: by their numbers, and of one number in the order of the text
abbrev pub all_faults : List ItemData → List (CheckKind × List ℕ)
all_faults file = flat_map (with_kind file) kinds

-- a file without faults
abbrev pub IsWellFormed : List ItemData → Type 0
IsWellFormed file = all_faults file ≡ []
