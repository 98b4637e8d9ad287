-- What a block names, in the order of the text.
use Rattle.std.specs.Prelude.{List, [], ◌∷◌, ◌++◌, ℕ, Bool, true, false, map, if◌then◌else◌}
use Rattle.sml_tree.specs.Syntax.{ArgData, CondData, both, either, neither, test, TestData, SendData, WaitedData, InstrData, send, choose, assign, move_to, terminate, wait_for, insert_in, remove_from, BlockData, done, step}
use Rattle.sml_tree.specs.declared.cond.Scope.TheVariants.{One, All}

-- a request, a test of a condition or of a `wait`, a `set`, the state in which an action ends, or a change of a set
pub data Site : Type 0 where
  asks : SendData → Site
  tests : TestData → Site
  sets : List ℕ → ArgData → Site
  ends : List ℕ → Site
  changes : (add : Bool) (member set : List ℕ) → Site

-- the tests of a condition
abbrev pub cond_sites : CondData → List Site
cond_sites (both c d) = cond_sites c ++ cond_sites d
cond_sites (either c d) = cond_sites c ++ cond_sites d
cond_sites (neither c) = cond_sites c
cond_sites (test t) = tests t ∷ []

-- what a `wait` waits for counts as tested, about no states
abbrev pub waited_test : WaitedData → TestData
waited_test w = record { scope = if w.all then All else One; name = w.name; negated = false; states = [] }

-- the place of what a `wait` waits for
abbrev pub waited_site : WaitedData → Site
waited_site w = tests (waited_test w)

abbrev mutual
  -- what an instruction names; an `if` its condition before its blocks
  pub instr_sites : InstrData → List Site
  instr_sites (send s) = asks s ∷ []
  instr_sites (choose c first second) = cond_sites c ++ (block_sites first ++ block_sites second)
  instr_sites (assign name value) = sets name value ∷ []
  instr_sites (move_to state) = ends state ∷ []
  instr_sites (terminate state) = ends state ∷ []
  instr_sites (wait_for waited) = map waited_site waited
  instr_sites (insert_in member set) = changes true member set ∷ []
  instr_sites (remove_from member set) = changes false member set ∷ []

  -- what the instructions of a block name, one after another
  pub block_sites : BlockData → List Site
  block_sites done = []
  block_sites (step instr rest) = instr_sites instr ++ block_sites rest
