-- The names of a file, numbered in the order of their first declaration.
use Rattle.std.specs.Prelude.{ℕ, List, [], ◌∷◌, ◌++◌, Option, Some, None, map, flat_map, if◌then◌else◌}
use Rattle.std.specs.List.{list_any, position}
use Rattle.sml_tree.specs.Syntax.{ItemData, class, object, group, ClassData, ObjectData, GroupData, StateData, ActionData}
use Rattle.sml_check_faults.specs.Lookup.{dead_name, adds_dead, actions}
use Rattle.sml_domain.specs.Names.{same_name, distinct}
use Rattle.sml_check_faults.specs.Tables.{class_name, object_name, group_name}

-- the class that an item is, if it is one
abbrev pub class_list : ItemData → List ClassData
class_list (class c) = c ∷ []
class_list (object o) = []
class_list (group g) = []

-- the object that an item is, if it is one
abbrev pub object_list : ItemData → List ObjectData
object_list (class c) = []
object_list (object o) = o ∷ []
object_list (group g) = []

-- the set that an item is, if it is one
abbrev pub group_list : ItemData → List GroupData
group_list (class c) = []
group_list (object o) = []
group_list (group g) = g ∷ []

-- the classes in the order of the text
abbrev pub classes_in : List ItemData → List ClassData
classes_in file = flat_map class_list file

-- the objects in the order of the text
abbrev pub objects_in : List ItemData → List ObjectData
objects_in file = flat_map object_list file

-- the sets in the order of the text
abbrev pub groups_in : List ItemData → List GroupData
groups_in file = flat_map group_list file

-- the name of a state
abbrev pub state_name : StateData → List ℕ
state_name s = s.name

-- the name of an action
abbrev pub action_name : ActionData → List ℕ
action_name a = a.name

-- the names of the states that a class declares
abbrev pub names_of_states : ClassData → List (List ℕ)
names_of_states c = map state_name c.states

-- the names of the actions that a class declares
abbrev pub names_of_actions : ClassData → List (List ℕ)
names_of_actions c = map action_name (actions c)

-- the name of the added state, if it is added to some class
abbrev pub added_names : List ClassData → List (List ℕ)
added_names cs = if list_any adds_dead cs then dead_name ∷ [] else []

-- the names of the states of all classes, each once, and last that of the added one
abbrev pub state_names : List ClassData → List (List ℕ)
state_names cs = distinct (flat_map names_of_states cs ++ added_names cs)

-- the names of the actions of all classes, each once
abbrev pub action_names : List ClassData → List (List ℕ)
action_names cs = distinct (flat_map names_of_actions cs)

-- the names of a file that have numbers
pub record Names : Type 0 where
  pub classes : List (List ℕ)
  pub objects : List (List ℕ)
  pub groups : List (List ℕ)
  pub states : List (List ℕ)
  pub actions : List (List ℕ)

-- the names of a file
abbrev pub names_of : List ItemData → Names
names_of file = record {
  classes = map class_name (classes_in file);
  objects = map object_name (objects_in file);
  groups = map group_name (groups_in file);
  states = state_names (classes_in file);
  actions = action_names (classes_in file);
}

-- the place of a name among others
abbrev pub place : List (List ℕ) → List ℕ → Option ℕ
place names n = position (same_name n) names

-- a place, or 0 if there is no place
abbrev pub place_or : Option ℕ → ℕ
place_or None = 0
place_or (Some k) = k

-- the number of a name
abbrev pub number : List (List ℕ) → List ℕ → ℕ
number names n = place_or (place names n)
