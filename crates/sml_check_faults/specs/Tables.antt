-- What the look-up tables of a file say.
use Rattle.std.specs.Prelude.{◌≡◌, ℕ, suc, Bool, true, false, List, [], ◌∷◌, Option, None, Some, is_some, option_map, flat_map, fold, slice_index_or, slice_set, Vec, nat_eq, nat_lt, if◌then◌else◌}
use Rattle.std.specs.List.{slice_get}
use Rattle.std.specs.Option.{option_and_then, option_map_or}
use Rattle.std.specs.Cmp.Lexicographic.{pointwise}
use Rattle.indexmap.specs.IndexMap.{IndexMap, get}
use Rattle.sml_tree.specs.Syntax.{ItemData, class, object, group, ClassData, ObjectData, GroupData, StateData, ActionData}
use Rattle.sml_check_faults.specs.declared.actions.ActionPlace.{ActionPlace}
use Rattle.sml_check_faults.specs.declared.tables.ItemKind.{ItemKind}
use Rattle.sml_check_faults.specs.declared.tables.ItemKind.TheVariants.{Class, Object, Group}
use Rattle.sml_check_faults.specs.Sites.{Site, changes}
use Rattle.sml_check_faults.specs.Lookup.{is_action_named, actions, with_name, may_have, group_named}
use Rattle.sml_check_faults.specs.Heads.{other_params}
use Rattle.sml_check_faults.specs.Repeats.{is_class_named, is_object_named, is_group}

-- the first place at which a test passes
abbrev pub place_of : {X : Type 0} → (X → Bool) → List X → Option ℕ
place_of p [] = None
place_of p (x ∷ xs) = if p x then Some 0 else option_map suc (place_of p xs)

-- whether a place is before another
abbrev pub is_before : ℕ → Option ℕ → Bool
is_before end None = false
is_before end (Some k) = nat_lt k end

-- a table has, for each name, the place of the first item of that name
abbrev pub Places : {S : Type 0} → (List ℕ → ItemData → Bool) → List ItemData → IndexMap (List ℕ) ℕ S → Type 0
Places test items m = (q : List ℕ) → get (pointwise nat_eq) m q ≡ place_of (test q) items

-- what stays, or else comes
abbrev pub first_or_else : {X : Type 0} → Option X → Option X → Option X
first_or_else None y = y
first_or_else (Some x) y = Some x

-- a table after one more item: its name has this place, unless it has one
abbrev pub IsNoted : {S : Type 0} → (List ℕ → ItemData → Bool) → ItemData → ℕ → IndexMap (List ℕ) ℕ S →
    IndexMap (List ℕ) ℕ S → Type 0
IsNoted test item place old new =
    (q : List ℕ) → get (pointwise nat_eq) new q ≡ first_or_else (get (pointwise nat_eq) old q)
    (if test q item then Some place else None)

-- the class that an item is
abbrev pub class_item : ItemData → Option ClassData
class_item (class c) = Some c
class_item (object o) = None
class_item (group g) = None

-- the object that an item is
abbrev pub object_item : ItemData → Option ObjectData
object_item (class c) = None
object_item (object o) = Some o
object_item (group g) = None

-- the set that an item is
abbrev pub group_item : ItemData → Option GroupData
group_item (class c) = None
group_item (object o) = None
group_item (group g) = Some g

-- what an item at a place is
abbrev pub item_at : {X : Type 0} → (ItemData → Option X) → List ItemData → ℕ → Option X
item_at f items k = option_and_then f (slice_get items k)

-- the class at a place
abbrev pub file_class_at : List ItemData → ℕ → Option ClassData
file_class_at = item_at class_item

-- whether an item is one of a kind and a name
abbrev pub is_named : ItemKind → List ℕ → ItemData → Bool
is_named Class = is_class_named
is_named Object = is_object_named
is_named Group = is_group

-- the names of items
abbrev pub class_name : ClassData → List ℕ
class_name c = c.name

abbrev pub object_name : ObjectData → List ℕ
object_name o = o.name

abbrev pub group_name : GroupData → List ℕ
group_name g = g.name

-- the name of an item that is of a kind
abbrev pub name_as : ItemKind → ItemData → Option (List ℕ)
name_as Class x = option_map class_name (class_item x)
name_as Object x = option_map object_name (object_item x)
name_as Group x = option_map group_name (group_item x)

-- the tables of all three kinds of items
pub record HasTables {R S T : Type 0} (items : List ItemData) (classes : IndexMap (List ℕ) ℕ R)
    (objects : IndexMap (List ℕ) ℕ S) (groups : IndexMap (List ℕ) ℕ T) : Type 0 where
  pub class_places : Places is_class_named items classes
  pub object_places : Places is_object_named items objects
  pub group_places : Places is_group items groups

-- ---- actions

-- an action at a place of a state
abbrev pub in_state : ℕ → ℕ → ActionPlace
in_state s a = record { state = s; action = a }

-- the same place, one state later
abbrev pub next_state : ActionPlace → ActionPlace
next_state p = in_state (suc p.state) p.action

-- the place of the first action of a name in some states
abbrev pub action_place : List ℕ → List StateData → Option ActionPlace
action_place q [] = None
action_place q (s ∷ ss) = first_or_else (option_map (in_state 0) (place_of (is_action_named q) s.actions))
    (option_map next_state (action_place q ss))

-- an action of a state
abbrev pub nth_action : ℕ → StateData → Option ActionData
nth_action k s = slice_get s.actions k

-- the action at a place
abbrev pub action_there : List StateData → ActionPlace → Option ActionData
action_there ss p = option_and_then (nth_action p.action) (slice_get ss p.state)

-- a table has, for each name, the place of the first action of that name
abbrev pub HasActions : {S : Type 0} → List StateData → IndexMap (List ℕ) ActionPlace S → Type 0
HasActions states m = (q : List ℕ) → get (pointwise nat_eq) m q ≡ action_place q states

-- the states of an item
abbrev pub states_in : ItemData → List StateData
states_in (class c) = c.states
states_in (object o) = []
states_in (group g) = []

-- the same for the states of an item
abbrev pub HasActionsOf : {S : Type 0} → ItemData → IndexMap (List ℕ) ActionPlace S → Type 0
HasActionsOf item m = HasActions (states_in item) m

-- what a table has for a name
abbrev pub given : {S : Type 0} → List ℕ → IndexMap (List ℕ) ActionPlace S → Option ActionPlace
given q m = get (pointwise nat_eq) m q

-- the states of the item at a place
abbrev pub states_at : List ItemData → ℕ → List StateData
states_at items k = option_map_or states_in (slice_get items k) []

-- the tables of all items: at each place that of the item there
abbrev pub ActionTables : {S : Type 0} → List ItemData → List (IndexMap (List ℕ) ActionPlace S) → Type 0
ActionTables items tables =
    (k : ℕ) (q : List ℕ) → option_and_then (given q) (slice_get tables k) ≡ action_place q (states_at items k)

-- the actions of an item, at whose place is this class, that have another list than the first one of their name
abbrev pub differing_at : Option ClassData → ItemData → List (List ℕ)
differing_at k (class c) = flat_map (other_params k) (actions c)
differing_at k (object o) = []
differing_at k (group g) = []

-- ---- what sets may come to have

-- the declared members of an item, if it is a set
abbrev pub declared_members : ItemData → List (List ℕ)
declared_members (class c) = []
declared_members (object o) = []
declared_members (group g) = g.members

-- the names of a list in memory
abbrev pub names_in : {S : Type 0} → Vec (List ℕ) S → List (List ℕ)
names_in v = v.items

-- whether a table has a place for a name
abbrev pub has_place : {S : Type 0} → IndexMap (List ℕ) ℕ S → List ℕ → Bool
has_place m q = is_some (get (pointwise nat_eq) m q)

-- the place that a table has for a name
abbrev pub place_in : {S : Type 0} → IndexMap (List ℕ) ℕ S → List ℕ → Option ℕ
place_in m q = get (pointwise nat_eq) m q

-- lists, with a name added to the one at a place
abbrev pub added_at : List (List (List ℕ)) → List ℕ → Option ℕ → List (List (List ℕ))
added_at lists n None = lists
added_at lists n (Some k) = slice_set lists k (with_name (slice_index_or lists k []) n)

-- the same, if the name is known
abbrev pub added_if : Bool → List (List (List ℕ)) → List ℕ → Option ℕ → List (List (List ℕ))
added_if false lists n place = lists
added_if true lists n place = added_at lists n place

-- lists of what sets may come to have, behind one more place of a block, by the known objects and the places of sets
abbrev pub lists_next : (List ℕ → Bool) → (List ℕ → Option ℕ) → List (List (List ℕ)) → Site → List (List (List ℕ))
lists_next known place lists (changes true member set) = added_if (known member) lists member (place set)
lists_next known place lists site = lists

-- the same, behind some places, by the tables of objects and sets
abbrev pub lists_after : {S T : Type 0} → IndexMap (List ℕ) ℕ S → IndexMap (List ℕ) ℕ T → List (List (List ℕ))
    → List Site → List (List (List ℕ))
lists_after objects groups lists sites = fold (lists_next (has_place objects) (place_in groups)) lists sites

-- the list at a place, if there is a place
abbrev pub listed_at : List (List (List ℕ)) → Option ℕ → List (List ℕ)
listed_at lists None = []
listed_at lists (Some k) = slice_index_or lists k []

-- at the place of each set is what it may come to have
abbrev pub HasMay : List ItemData → List (List (List ℕ)) → Type 0
HasMay file lists = (n : List ℕ) → listed_at lists (place_of (is_group n) file) ≡ may_have file n (group_named file n)
