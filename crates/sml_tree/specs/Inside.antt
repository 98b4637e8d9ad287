-- What is in a block, in a condition and in a file.
use Rattle.std.specs.Prelude.{List, [], ◌∷◌, ◌++◌}
use Rattle.std.specs.List.{flat_map}
use Rattle.sml_tree.specs.Syntax.{TestData, CondData, both, either, neither, test, SendData, WaitedData, InstrData, BlockData, send, choose, assign, move_to, terminate, wait_for, insert_in, remove_from, done, step, ActionData, StateData, ItemData, class, object, group}

-- the tests of a condition
abbrev pub tests : CondData → List TestData
tests (both l r) = tests l ++ tests r
tests (either l r) = tests l ++ tests r
tests (neither c) = tests c
tests (test x) = x ∷ []

abbrev mutual
  -- the conditions of its `if`s
  pub instr_conditions : InstrData → List CondData
  instr_conditions (send s) = []
  instr_conditions (choose c first second) = c ∷ (block_conditions first ++ block_conditions second)
  instr_conditions (assign name value) = []
  instr_conditions (move_to state) = []
  instr_conditions (terminate state) = []
  instr_conditions (wait_for waited) = []
  instr_conditions (insert_in member set) = []
  instr_conditions (remove_from member set) = []

  pub block_conditions : BlockData → List CondData
  block_conditions done = []
  block_conditions (step instr rest) = instr_conditions instr ++ block_conditions rest

abbrev mutual
  -- what it sends
  pub instr_sends : InstrData → List SendData
  instr_sends (send s) = s ∷ []
  instr_sends (choose c first second) = block_sends first ++ block_sends second
  instr_sends (assign name value) = []
  instr_sends (move_to state) = []
  instr_sends (terminate state) = []
  instr_sends (wait_for waited) = []
  instr_sends (insert_in member set) = []
  instr_sends (remove_from member set) = []

  pub block_sends : BlockData → List SendData
  block_sends done = []
  block_sends (step instr rest) = instr_sends instr ++ block_sends rest

abbrev mutual
  -- what its `wait`s wait for
  pub instr_waits : InstrData → List (List WaitedData)
  instr_waits (send s) = []
  instr_waits (choose c first second) = block_waits first ++ block_waits second
  instr_waits (assign name value) = []
  instr_waits (move_to state) = []
  instr_waits (terminate state) = []
  instr_waits (wait_for waited) = waited ∷ []
  instr_waits (insert_in member set) = []
  instr_waits (remove_from member set) = []

  pub block_waits : BlockData → List (List WaitedData)
  block_waits done = []
  block_waits (step instr rest) = instr_waits instr ++ block_waits rest

-- the states of the classes
abbrev pub item_states : ItemData → List StateData
item_states (class c) = c.states
item_states (object o) = []
item_states (group g) = []

-- the conditions of a file
abbrev pub action_conditions : ActionData → List CondData
action_conditions a = block_conditions a.body

abbrev pub state_conditions : StateData → List CondData
state_conditions s = flat_map action_conditions s.actions

abbrev pub item_conditions : ItemData → List CondData
item_conditions item = flat_map state_conditions (item_states item)

abbrev pub conditions : List ItemData → List CondData
conditions file = flat_map item_conditions file
