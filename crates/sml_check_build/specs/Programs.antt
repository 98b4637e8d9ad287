-- The program of a block: its instructions with numbers for names.
use Rattle.std.specs.Prelude.{ℕ, Bool, true, false, List, Option, Some, None, map, flat_map, option_to_list, if◌then◌else◌}
use Rattle.std.specs.List.{position}
use Rattle.sml_tree.specs.declared.cond.Scope.{Scope}
use Rattle.sml_tree.specs.declared.cond.Scope.TheVariants.{One, All, Any}
use Rattle.sml_tree.specs.Syntax.{ArgData, lit, param, PassedData, CondData, both, either, neither, test, TestData, SendData, WaitedData, InstrData, send, choose, assign, move_to, terminate, wait_for, insert_in, remove_from, BlockData, done, step, ClassData, ActionData}
use Rattle.sml_check_faults.specs.Lookup.{is_class_param, is_action_param}
use Rattle.sml_domain.specs.Values.{literal_value}
use Rattle.sml_domain.specs.Program.{Operand, Fixed, Own, Given, Argument, Target, ToOne, ToMembers, Subject, OfOne, OfEach, OfAny, Formula, Both, Either, Not, Test, Program, Nothing, SetThen, SendThen, SendNoneThen, IfThen, EndIn, TerminateIn, WaitThen, ChangeThen}
use Rattle.sml_check_build.specs.Numbers.{Names, place, place_or, number}

-- ---- values

-- the place of a parameter in the list of the class
abbrev pub class_place : ClassData → List ℕ → Option ℕ
class_place c n = position (is_class_param n) c.params

-- the place of a parameter in the list of the action
abbrev pub action_param_place : ActionData → List ℕ → Option ℕ
action_param_place a n = position (is_action_param n) a.params

-- a parameter of the class, or else of the action
abbrev pub param_of : Option ℕ → Option ℕ → Operand
param_of (Some p) q = Own p
param_of None q = Given (place_or q)

-- a value that is written out, or the parameter of a name
abbrev pub operand_numbered : ClassData → ActionData → ArgData → Operand
operand_numbered c a (lit l) = Fixed (literal_value l)
operand_numbered c a (param n) = param_of (class_place c n) (action_param_place a n)

-- an argument
abbrev pub argument_numbered : ClassData → ActionData → PassedData → Argument
argument_numbered c a p = record { name = p.name; value = operand_numbered c a p.value }

-- ---- conditions

-- whom a test asks
abbrev pub asked_numbered : Names → Scope → List ℕ → Subject
asked_numbered n One x = OfOne (number n.objects x)
asked_numbered n All x = OfEach (number n.groups x)
asked_numbered n Any x = OfAny (number n.groups x)

-- the number of a name, if it has one
abbrev pub number_list : List (List ℕ) → List ℕ → List ℕ
number_list names x = option_to_list (place names x)

-- the numbers of the states of a test: a state that no class has is only in a test over no objects, and is left out
abbrev pub state_numbers : Names → List (List ℕ) → List ℕ
state_numbers n states = flat_map (number_list n.states) states

-- a test
abbrev pub test_formula : Names → TestData → Formula
test_formula n t = Test (asked_numbered n t.scope t.name) t.negated (state_numbers n t.states)

-- a condition
abbrev pub formula_numbered : Names → CondData → Formula
formula_numbered n (both c d) = Both (formula_numbered n c) (formula_numbered n d)
formula_numbered n (either c d) = Either (formula_numbered n c) (formula_numbered n d)
formula_numbered n (neither c) = Not (formula_numbered n c)
formula_numbered n (test t) = test_formula n t

-- ---- instructions

-- whom a request is for
abbrev pub target_numbered : Names → Bool → List ℕ → Target
target_numbered n false x = ToOne (number n.objects x)
target_numbered n true x = ToMembers (number n.groups x)

-- a request of the action with this number; an action that no class declares is asked of no objects
abbrev pub request : Names → ClassData → ActionData → SendData → Option ℕ → Program → Program
request n c a s None rest = SendNoneThen (number n.groups s.target) rest
request n c a s (Some k) rest = SendThen (target_numbered n s.all s.target) k (map (argument_numbered c a) s.args) rest

-- what a `wait` waits for: an object, or each member of a set
abbrev pub waited_asked : Names → WaitedData → Subject
waited_asked n w = asked_numbered n (if w.all then All else One) w.name

abbrev mutual
  -- an instruction of an action, and what follows it
  pub instr_then : Names → ClassData → ActionData → InstrData → Program → Program
  instr_then n c a (send s) rest = request n c a s (place n.actions s.action) rest
  instr_then n c a (choose f yes_block no_block) rest =
      IfThen (formula_numbered n f) (program n c a yes_block) (program n c a no_block) rest
  instr_then n c a (assign x v) rest = SetThen (place_or (class_place c x)) (operand_numbered c a v) rest
  instr_then n c a (move_to s) rest = EndIn (number n.states s)
  instr_then n c a (terminate s) rest = TerminateIn (number n.states s)
  instr_then n c a (wait_for ws) rest = WaitThen (map (waited_asked n) ws) rest
  instr_then n c a (insert_in member set) rest = ChangeThen true (number n.objects member) (number n.groups set) rest
  instr_then n c a (remove_from member set) rest = ChangeThen false (number n.objects member) (number n.groups set) rest

  -- the program of a block of an action
  pub program : Names → ClassData → ActionData → BlockData → Program
  program n c a done = Nothing
  program n c a (step i rest) = instr_then n c a i (program n c a rest)
