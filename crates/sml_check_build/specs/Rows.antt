-- The parts of a domain that the items of a file say, with programs for the numbers of blocks.
use Rattle.std.specs.Prelude.{ℕ, Bool, true, List, [], ◌∷◌, ◌++◌, Option, Some, None, map, option_map, find, if◌then◌else◌}
use Rattle.sml_tree.specs.Syntax.{ItemData, ClassData, ObjectData, GroupData, StateData, ActionData, ClassParamData, ActionParamData}
use Rattle.sml_check_faults.specs.Lookup.{first_item, dead_name, adds_dead, file_action_named, objects_meant}
use Rattle.sml_check_faults.specs.Heads.{is_initial, is_marked_dead}
use Rattle.sml_domain.specs.Values.{literal_value}
use Rattle.sml_domain.specs.Names.{distinct}
use Rattle.sml_domain.specs.Program.{Program}
use Rattle.sml_domain.specs.Trees.{tree_at}
use Rattle.sml_domain.specs.Domain.{Param, Action, State, Signature, Class, Object, Group}
use Rattle.sml_check_build.specs.Numbers.{Names, number, state_name, names_of_actions}
use Rattle.sml_check_build.specs.Programs.{program}

-- ---- parameters

-- a parameter of a class, with its value
abbrev pub class_param_row : ClassParamData → Param
class_param_row p = record { name = p.name; kind = p.kind; value = Some (literal_value p.value) }

-- a parameter of an action, with its default, if it has one
abbrev pub action_param_row : ActionParamData → Param
action_param_row p = record { name = p.name; kind = p.kind; value = option_map literal_value p.default }

-- the parameters of an action
abbrev pub action_param_rows : ActionData → List Param
action_param_rows a = map action_param_row a.params

-- the parameters of an action, if there is one
abbrev pub params_where : Option ActionData → List Param
params_where None = []
params_where (Some a) = action_param_rows a

-- the parameters of the action of a name, as the first state that declares it lists them
abbrev pub signature_row : Names → ClassData → List ℕ → Signature
signature_row n c x = record { action = number n.actions x; params = params_where (file_action_named c x) }

-- those of all actions of a class, in the order of their first declaration
abbrev pub signature_rows : Names → ClassData → List Signature
signature_rows n c = map (signature_row n c) (distinct (names_of_actions c))

-- ---- classes

-- an action of a state, with its program
pub record ActionRow : Type 0 where
  pub number : ℕ
  pub program : Program

-- a state of a class
pub record StateRow : Type 0 where
  pub number : ℕ
  pub actions : List ActionRow

-- a class
pub record ClassRow : Type 0 where
  pub name : List ℕ
  pub associated : Bool
  pub params : List Param
  pub states : List StateRow
  pub initial : ℕ
  pub dead : ℕ
  pub signatures : List Signature

-- what a file says of an action of a class
abbrev pub action_row : Names → ClassData → ActionData → ActionRow
action_row n c a = record { number = number n.actions a.name; program = program n c a a.body }

-- what it says of a state
abbrev pub state_row : Names → ClassData → StateData → StateRow
state_row n c s = record { number = number n.states s.name; actions = map (action_row n c) s.actions }

-- a state without actions
abbrev pub bare_state : Names → List ℕ → StateRow
bare_state n x = record { number = number n.states x; actions = [] }

-- the state that is added to a class, if it is
abbrev pub added_state : Names → ClassData → List StateRow
added_state n c = if adds_dead c then bare_state n dead_name ∷ [] else []

-- a name, or else another
abbrev pub name_or : Option (List ℕ) → List ℕ → List ℕ
name_or None other = other
name_or (Some x) other = x

-- a name, or else the one that may come
abbrev pub name_or_else : Option (List ℕ) → Option (List ℕ) → Option (List ℕ)
name_or_else None other = other
name_or_else (Some x) other = Some x

-- the name of the initial state: that of the marked one, or else of the first
abbrev pub initial_name : ClassData → Option (List ℕ)
initial_name c =
    name_or_else (option_map state_name (find is_initial c.states)) (option_map state_name (first_item c.states))

-- the name of the dead state: that of the marked one, or else `DEAD`
abbrev pub last_name : ClassData → List ℕ
last_name c = name_or (option_map state_name (find is_marked_dead c.states)) dead_name

-- the number of a name, if there is one
abbrev pub number_where : List (List ℕ) → Option (List ℕ) → ℕ
number_where names None = 0
number_where names (Some x) = number names x

-- what a file says of a class
abbrev pub class_row : Names → ClassData → ClassRow
class_row n c = record {
  name = c.name;
  associated = c.associated;
  params = map class_param_row c.params;
  states = map (state_row n c) c.states ++ added_state n c;
  initial = number_where n.states (initial_name c);
  dead = number n.states (last_name c);
  signatures = signature_rows n c;
}

-- ---- what a domain says

-- an action of a domain whose blocks have these trees
abbrev pub action_shown : List Program → Action → ActionRow
action_shown known x = record { number = x.number; program = tree_at known x.block }

-- a state
abbrev pub row_of_state : List Program → State → StateRow
row_of_state known x = record { number = x.number; actions = map (action_shown known) x.actions }

-- a class
abbrev pub class_shown : List Program → Class → ClassRow
class_shown known x = record {
  name = x.name;
  associated = x.associated;
  params = x.params;
  states = map (row_of_state known) x.states;
  initial = x.initial;
  dead = x.dead;
  signatures = x.signatures;
}

-- ---- objects and sets

-- an object with the number of its class
abbrev pub object_row : Names → ObjectData → Object
object_row n o = record { name = o.name; class = number n.classes o.class }

-- a set of a file with the numbers of its members, and of all that it may come to have
abbrev pub group_row : List ItemData → Names → GroupData → Group
group_row file n g = record {
  name = g.name;
  members = map (number n.objects) g.members;
  may =
      map (number n.objects) (objects_meant file true g.name);
}
