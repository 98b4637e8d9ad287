-- The canonical text of instructions.
use Rattle.std.specs.Prelude.{ℕ, Bool, true, false, List, [], ◌++◌, codes}
use Rattle.sml_tree.specs.Syntax.{ArgData, SendData, WaitedData, InstrData, BlockData, send, choose, assign, move_to, terminate, wait_for, insert_in, remove_from, done, step}
use Rattle.sml_print.specs.Words.{indent, deeper, comma_list, bracket_list, passed_text, arg_text}
use Rattle.sml_print.specs.Conditions.{cond_text}

-- whether a `do` is to all of a set, or a `wait` for all of it
abbrev pub every_text : Bool → List ℕ
every_text false = []
every_text true = codes "all_in "

-- a `do`
abbrev pub send_text : SendData → List ℕ
send_text s = codes "do " ++ (s.action ++ (bracket_list passed_text s.args
    ++ (codes " " ++ (every_text s.all ++ (s.target ++ codes "\n")))))

-- a `set`
abbrev pub assign_text : List ℕ → ArgData → List ℕ
assign_text param value = codes "set " ++ (param ++ (codes " = " ++ (arg_text value ++ codes "\n")))

-- an instruction that names a state
abbrev pub towards_text : List ℕ → List ℕ → List ℕ
towards_text word state = word ++ (state ++ codes "\n")

-- what a `wait` waits for
abbrev pub waited_text : WaitedData → List ℕ
waited_text w = every_text w.all ++ w.name

-- a `wait`
abbrev pub wait_text : List WaitedData → List ℕ
wait_text waited = codes "wait ( " ++ (comma_list waited_text waited ++ codes " )\n")

-- an instruction that changes a set: its word, the object, the word between them, the set
abbrev pub change_text : List ℕ → List ℕ → List ℕ → List ℕ → List ℕ
change_text word member between set = word ++ (member ++ (between ++ (set ++ codes "\n")))

-- the second block of an `if`, which is left out if it is empty
abbrev pub else_text : ℕ → BlockData → List ℕ → List ℕ
else_text level done text = []
else_text level (step i b) text = indent level ++ (codes "else\n" ++ text)

abbrev mutual
  -- an instruction, `level` levels in
  pub instr_text : ℕ → InstrData → List ℕ
  instr_text level (send s) = indent level ++ send_text s
  instr_text level (choose cond first second) =
      indent level ++ (codes "if ( " ++ (cond_text cond ++ (codes " ) then\n"
      ++ (block_text (deeper level) first ++ (else_text level second (block_text (deeper level) second)
      ++ (indent level ++ codes "endif\n"))))))
  instr_text level (assign param value) = indent level ++ assign_text param value
  instr_text level (move_to state) = indent level ++ towards_text (codes "move_to ") state
  instr_text level (terminate state) = indent level ++ towards_text (codes "terminate_action /state=") state
  instr_text level (wait_for waited) = indent level ++ wait_text waited
  instr_text level (insert_in member set) = indent level ++ change_text (codes "insert ") member (codes " in ") set
  instr_text level (remove_from member set) = indent level ++ change_text (codes "remove ") member (codes " from ") set

  -- instructions, `level` levels in
  pub block_text : ℕ → BlockData → List ℕ
  block_text level done = []
  block_text level (step i b) = instr_text level i ++ block_text level b
