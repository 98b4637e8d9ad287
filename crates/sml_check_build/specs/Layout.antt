-- How the blocks of a file are numbered: those of actions in the order of the text, and those that a block holds right
-- before it.
use Rattle.std.specs.Prelude.{ℕ, true, false, suc, ◌+◌, List, [], ◌∷◌, ◌++◌, Option, Some, None, map, if◌then◌else◌}
use Rattle.std.specs.List.{sum_by}
use Rattle.sml_tree.specs.Syntax.{SendData, InstrData, send, choose, assign, move_to, terminate, wait_for, insert_in, remove_from, BlockData, done, step, ClassData, StateData, ActionData}
use Rattle.sml_check_faults.specs.Lookup.{dead_name, adds_dead}
use Rattle.sml_domain.specs.Program.{Instruction, Assigns, Sends, SendsToNone, Chooses, Moves, Terminates, Waits, Changes}
use Rattle.sml_domain.specs.Domain.{Action, State, Class}
use Rattle.sml_check_build.specs.Numbers.{Names, place, place_or, number}
use Rattle.sml_check_build.specs.Programs.{class_place, operand_numbered, argument_numbered, formula_numbered, target_numbered, waited_asked}
use Rattle.sml_check_build.specs.Rows.{class_param_row, signature_rows, initial_name, last_name, number_where}

-- ---- how many blocks there are

abbrev mutual
  -- the blocks that an instruction holds
  pub held_by : InstrData → ℕ
  held_by (send s) = 0
  held_by (choose f yes_block no_block) = suc (held_in yes_block) + suc (held_in no_block)
  held_by (assign x v) = 0
  held_by (move_to s) = 0
  held_by (terminate s) = 0
  held_by (wait_for ws) = 0
  held_by (insert_in member set) = 0
  held_by (remove_from member set) = 0

  -- those that the instructions of a block hold
  pub held_in : BlockData → ℕ
  held_in done = 0
  held_in (step i rest) = held_by i + held_in rest

-- the blocks of an action
abbrev pub blocks_of_action : ActionData → ℕ
blocks_of_action a = suc (held_in a.body)

-- those of a state
abbrev pub blocks_of_state : StateData → ℕ
blocks_of_state s = sum_by blocks_of_action s.actions

-- those of a class
abbrev pub blocks_of_class : ClassData → ℕ
blocks_of_class c = sum_by blocks_of_state c.states

-- ---- instructions with the numbers of the blocks that they hold

-- a request of the action with this number; an action that no class declares is asked of no objects
abbrev pub request_laid : Names → ClassData → ActionData → SendData → Option ℕ → Instruction
request_laid n c a s None = SendsToNone (number n.groups s.target)
request_laid n c a s (Some k) = Sends (target_numbered n s.all s.target) k (map (argument_numbered c a) s.args)

-- an instruction, if the blocks that it holds have the numbers from `k` on
abbrev pub instr_laid : Names → ClassData → ActionData → ℕ → InstrData → Instruction
instr_laid n c a k (send s) = request_laid n c a s (place n.actions s.action)
instr_laid n c a k (choose f yes_block no_block) =
    Chooses (formula_numbered n f) (k + held_in yes_block) (k + suc (held_in yes_block) + held_in no_block)
instr_laid n c a k (assign x v) = Assigns (place_or (class_place c x)) (operand_numbered c a v)
instr_laid n c a k (move_to s) = Moves (number n.states s)
instr_laid n c a k (terminate s) = Terminates (number n.states s)
instr_laid n c a k (wait_for ws) = Waits (map (waited_asked n) ws)
instr_laid n c a k (insert_in member set) = Changes true (number n.objects member) (number n.groups set)
instr_laid n c a k (remove_from member set) = Changes false (number n.objects member) (number n.groups set)

-- the instructions of a block, if the blocks that they hold have the numbers from `k` on
abbrev pub instrs_laid : Names → ClassData → ActionData → ℕ → BlockData → List Instruction
instrs_laid n c a k done = []
instrs_laid n c a k (step i rest) = instr_laid n c a k i ∷ instrs_laid n c a (k + held_by i) rest

-- ---- blocks

abbrev mutual
  -- the blocks that an instruction holds, in the order of their ends
  pub held_blocks : Names → ClassData → ActionData → ℕ → InstrData → List (List Instruction)
  held_blocks n c a k (send s) = []
  held_blocks n c a k (choose f yes_block no_block) =
      (inner_blocks n c a k yes_block ++ instrs_laid n c a k yes_block ∷ [])
      ++ (inner_blocks n c a (k + suc (held_in yes_block)) no_block
      ++ instrs_laid n c a (k + suc (held_in yes_block)) no_block ∷ [])
  held_blocks n c a k (assign x v) = []
  held_blocks n c a k (move_to s) = []
  held_blocks n c a k (terminate s) = []
  held_blocks n c a k (wait_for ws) = []
  held_blocks n c a k (insert_in member set) = []
  held_blocks n c a k (remove_from member set) = []

  -- those that the instructions of a block hold
  pub inner_blocks : Names → ClassData → ActionData → ℕ → BlockData → List (List Instruction)
  inner_blocks n c a k done = []
  inner_blocks n c a k (step i rest) = held_blocks n c a k i ++ inner_blocks n c a (k + held_by i) rest

-- those, and then the block itself
abbrev pub blocks_laid : Names → ClassData → ActionData → ℕ → BlockData → List (List Instruction)
blocks_laid n c a k b = inner_blocks n c a k b ++ instrs_laid n c a k b ∷ []

-- the blocks of each of some things in order, the first of which has the number `k`
abbrev pub blocks_from : {X : Type 0} → (ℕ → X → List (List Instruction)) → (X → ℕ) → ℕ → List X →
    List (List Instruction)
blocks_from blocks size k [] = []
blocks_from blocks size k (x ∷ xs) = blocks k x ++ blocks_from blocks size (k + size x) xs

-- the blocks of an action
abbrev pub action_blocks : Names → ClassData → ℕ → ActionData → List (List Instruction)
action_blocks n c k a = blocks_laid n c a k a.body

-- those of a state
abbrev pub state_blocks : Names → ClassData → ℕ → StateData → List (List Instruction)
state_blocks n c k s = blocks_from (action_blocks n c) blocks_of_action k s.actions

-- those of a class
abbrev pub class_blocks : Names → ℕ → ClassData → List (List Instruction)
class_blocks n k c = blocks_from (state_blocks n c) blocks_of_state k c.states

-- ---- classes with the numbers of their blocks

-- a row for each of some things in order, the first of whose blocks has the number `k`
abbrev pub rows_from : {X Y : Type 0} → (ℕ → X → Y) → (X → ℕ) → ℕ → List X → List Y
rows_from row size k [] = []
rows_from row size k (x ∷ xs) = row k x ∷ rows_from row size (k + size x) xs

-- an action, whose own block is the last of its blocks
abbrev pub action_laid : Names → ClassData → ℕ → ActionData → Action
action_laid n c k a = record { number = number n.actions a.name; block = k + held_in a.body }

-- a state
abbrev pub state_laid : Names → ClassData → ℕ → StateData → State
state_laid n c k s =
    record { number = number n.states s.name; actions = rows_from (action_laid n c) blocks_of_action k s.actions }

-- the state that is added to a class, if it is
abbrev pub added_laid : Names → ClassData → List State
added_laid n c = if adds_dead c then record { number = number n.states dead_name; actions = [] } ∷ [] else []

-- a class
abbrev pub class_laid : Names → ℕ → ClassData → Class
class_laid n k c = record {
  name = c.name;
  associated = c.associated;
  params = map class_param_row c.params;
  states = rows_from (state_laid n c) blocks_of_state k c.states ++ added_laid n c;
  initial = number_where n.states (initial_name c);
  dead = number n.states (last_name c);
  signatures = signature_rows n c;
}

-- the classes of a file
abbrev pub classes_laid : Names → List ClassData → List Class
classes_laid n cs = rows_from (class_laid n) blocks_of_class 0 cs

-- the blocks of a file
abbrev pub file_blocks : Names → List ClassData → List (List Instruction)
file_blocks n cs = blocks_from (class_blocks n) blocks_of_class 0 cs
