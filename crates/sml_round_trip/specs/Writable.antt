-- What a file holds whose text can be read: its names, ints and strings are those of tokens, and no list of states is
-- empty.
use Rattle.std.specs.Prelude.{◌≡◌, ◌≤◌, ◌<◌, ℕ, false, true, List, length, IfSome}
use Rattle.std.specs.List.{AllByRecursion}
use Rattle.sml_text.specs.Bytes.{is_word, is_string_byte, folded}
use Rattle.sml_text.specs.Tokens.{IsLong, Each}
use Rattle.sml_tree.specs.declared.token_kind.TokenKind.TheVariants.{Name}
use Rattle.sml_tree.specs.Piece.{word_kind}
use Rattle.sml_tree.specs.Syntax.{LiteralData, int, str, ArgData, lit, param, PassedData, WaitedData, TestData, CondData, both, either, neither, test, SendData, InstrData, BlockData, send, choose, assign, move_to, terminate, wait_for, insert_in, remove_from, done, step, ClassParamData, ActionParamData, ActionData, StateData, ClassData, ItemData, class, object, group}
use Rattle.sml_text.specs.declared.limits.TheConstants.{LONGEST_STRING}

-- a word in upper case that is not reserved
pub record IsWritableName (name : List ℕ) : Type 0 where
  pub word : is_word name ≡ true
  pub upper : folded name ≡ name
  pub free : word_kind false name ≡ Name

-- an int of 64 bits, or a string, no longer than it may be, without a quote
abbrev pub IsLiteral : LiteralData → Type 0
IsLiteral (int n) = IsLong n
IsLiteral (str bytes) = Each is_string_byte bytes × (length bytes ≤ LONGEST_STRING)

-- a value, or the name of a parameter
abbrev pub IsArg : ArgData → Type 0
IsArg (lit value) = IsLiteral value
IsArg (param name) = IsWritableName name

-- an argument
abbrev pub IsPassed : PassedData → Type 0
IsPassed p = IsWritableName p.name × IsArg p.value

-- some names
abbrev pub AreNamed : List (List ℕ) → Type 0
AreNamed names = (0 < length names) × AllByRecursion IsWritableName names

-- a test, of some states
abbrev pub IsWritableTest : TestData → Type 0
IsWritableTest t = IsWritableName t.name × AreNamed t.states

-- a condition, by its tests
abbrev pub IsWritableCond : CondData → Type 0
IsWritableCond (both a b) = IsWritableCond a × IsWritableCond b
IsWritableCond (either a b) = IsWritableCond a × IsWritableCond b
IsWritableCond (neither a) = IsWritableCond a
IsWritableCond (test t) = IsWritableTest t

-- a `do`
abbrev pub IsWritableSend : SendData → Type 0
IsWritableSend s = IsWritableName s.action × AllByRecursion IsPassed s.args × IsWritableName s.target

-- what a `wait` names
abbrev pub IsWaited : WaitedData → Type 0
IsWaited w = IsWritableName w.name

-- a `wait`, for something
abbrev pub IsWritableWait : List WaitedData → Type 0
IsWritableWait waited = (0 < length waited) × AllByRecursion IsWaited waited

abbrev mutual
  -- an instruction
  pub IsWritableInstr : InstrData → Type 0
  IsWritableInstr (send s) = IsWritableSend s
  IsWritableInstr (choose c first second) = IsWritableCond c × IsWritableBlock first × IsWritableBlock second
  IsWritableInstr (assign name value) = IsWritableName name × IsArg value
  IsWritableInstr (move_to state) = IsWritableName state
  IsWritableInstr (terminate state) = IsWritableName state
  IsWritableInstr (wait_for waited) = IsWritableWait waited
  IsWritableInstr (insert_in member set) = IsWritableName member × IsWritableName set
  IsWritableInstr (remove_from member set) = IsWritableName member × IsWritableName set

  -- a block, by its instructions
  pub IsWritableBlock : BlockData → Type 0
  IsWritableBlock done = Unit {0}
  IsWritableBlock (step instr rest) = IsWritableInstr instr × IsWritableBlock rest

-- a parameter of a class
abbrev pub IsClassParam : ClassParamData → Type 0
IsClassParam p = IsWritableName p.name × IsLiteral p.value

-- a parameter of an action
abbrev pub IsActionParam : ActionParamData → Type 0
IsActionParam p = IsWritableName p.name × IfSome p.default IsLiteral

-- an action
abbrev pub IsWritableAction : ActionData → Type 0
IsWritableAction a = IsWritableName a.name × AllByRecursion IsActionParam a.params × IsWritableBlock a.body

-- a state
abbrev pub IsWritableState : StateData → Type 0
IsWritableState s = IsWritableName s.name × AllByRecursion IsWritableAction s.actions

-- a class
abbrev pub IsWritableClass : ClassData → Type 0
IsWritableClass c =
    IsWritableName c.name × AllByRecursion IsClassParam c.params × AllByRecursion IsWritableState c.states

-- an item
abbrev pub IsWritableItem : ItemData → Type 0
IsWritableItem (class c) = IsWritableClass c
IsWritableItem (object o) = IsWritableName o.name × IsWritableName o.class
IsWritableItem (group g) = IsWritableName g.name × AllByRecursion IsWritableName g.members

-- a file, by its items
abbrev pub IsWritable : List ItemData → Type 0
IsWritable file = AllByRecursion IsWritableItem file
