-- Forms: what follows one another in a text, and what it is worth.
use Rattle.std.specs.Prelude.{ℕ, Bool, List, [], ◌∷◌, ◌++◌, Option}
use Rattle.sml_tree.specs.declared.token_kind.TokenKind.{TokenKind}
use Rattle.sml_tree.specs.declared.file.Kind.{Kind}
use Rattle.sml_tree.specs.Piece.{Piece}
use Rattle.sml_tree.specs.Syntax.{LiteralData, ArgData, PassedData, WaitedData, CondData, InstrData, ClassParamData, ActionParamData, ActionData, StateData, ItemData}

-- Whether a limit refuses a token at its place: `Deep` at an `if`, `not` or bracket inside sixteen others,
-- `Many` at the first token of an item too many.
pub data Mark : Type 0 where
  Fine : Mark
  Deep : Mark
  Many : Mark

-- what the grammar speaks of
pub data Family : Type 0 where
  Files : Family
  ClassMarks : Family
  ClassParamLists : Family
  Sorts : Family
  ClassParams : Family
  MoreClassParams : Family
  Literals : Family
  States : Family
  StateMarks : Family
  FirstMarks : Family
  InitialMarks : Family
  DeadMarks : Family
  Actions : Family
  ActionParamLists : Family
  ActionParams : Family
  MoreActionParams : Family
  Defaults : Family
  Blocks : Family
  ArgLists : Family
  PassedArgs : Family
  MorePassed : Family
  Waiteds : Family
  MoreWaiteds : Family
  Everys : Family
  Args : Family
  Branches : Family
  Arms : Family
  Elses : Family
  Conds : Family
  Conjs : Family
  Units : Family
  MoreAnds : Family
  MoreOrs : Family
  Senses : Family
  StateLists : Family
  NameLists : Family
  MoreNames : Family
  MemberLists : Family
  MoreMembers : Family

-- a condition, and how many tests of the whole condition are before its end
pub record Counted : Type 0 where
  pub formula : CondData
  pub count : ℕ

-- the marks of a state
pub record Marks : Type 0 where
  pub initial : Bool
  pub dead : Bool

-- the two blocks of an `if`
pub record Two : Type 0 where
  pub yes_part : List InstrData
  pub no_part : List InstrData

-- The same with what was counted before it: the classes, objects and sets of the file; the items of a list; the
-- open `if`s; the open `not`s and brackets and the tests of a condition. A chain of `and` or `or` has its left
-- operand besides.
pub data Part : Type 0 where
  File : (classes objects sets : ℕ) → Part
  ClassMark : Part
  ClassParamList : Part
  Sort : ℕ → Part
  ClassParam : ℕ → Part
  MoreClassParam : ℕ → Part
  Literal : Part
  State : ℕ → Part
  StateMark : Part
  FirstMark : Part
  InitialMark : Part
  DeadMark : Part
  Action : ℕ → Part
  ActionParamList : Part
  ActionParam : ℕ → Part
  MoreActionParam : ℕ → Part
  Default : Part
  Block : (depth : ℕ) → Part
  ArgList : Part
  Passed : ℕ → Part
  MorePassedArg : ℕ → Part
  Waited : ℕ → Part
  MoreWaited : ℕ → Part
  Every : Part
  Arg : Part
  Branch : (depth : ℕ) → Part
  Arm : (depth : ℕ) → Part
  Else : (depth : ℕ) → Part
  Cond : (depth tests : ℕ) → Part
  Conj : (depth tests : ℕ) → Part
  Unit' : (depth tests : ℕ) → Part
  MoreAnd : (depth tests : ℕ) (left : CondData) → Part
  MoreOr : (depth tests : ℕ) (left : CondData) → Part
  Sense : Part
  StateList : Part
  Names : Part
  MoreName : ℕ → Part
  Members : Part
  MoreMember : ℕ → Part

-- a part without its numbers
abbrev pub family : Part → Family
family (File classes objects sets) = Files
family ClassMark = ClassMarks
family ClassParamList = ClassParamLists
family (Sort n) = Sorts
family (ClassParam n) = ClassParams
family (MoreClassParam n) = MoreClassParams
family Literal = Literals
family (State n) = States
family StateMark = StateMarks
family FirstMark = FirstMarks
family InitialMark = InitialMarks
family DeadMark = DeadMarks
family (Action n) = Actions
family ActionParamList = ActionParamLists
family (ActionParam n) = ActionParams
family (MoreActionParam n) = MoreActionParams
family Default = Defaults
family (Block depth) = Blocks
family ArgList = ArgLists
family (Passed n) = PassedArgs
family (MorePassedArg n) = MorePassed
family (Waited n) = Waiteds
family (MoreWaited n) = MoreWaiteds
family Every = Everys
family Arg = Args
family (Branch depth) = Branches
family (Arm depth) = Arms
family (Else depth) = Elses
family (Cond depth tests) = Conds
family (Conj depth tests) = Conjs
family (Unit' depth tests) = Units
family (MoreAnd depth tests left) = MoreAnds
family (MoreOr depth tests left) = MoreOrs
family Sense = Senses
family StateList = StateLists
family Names = NameLists
family (MoreName n) = MoreNames
family Members = MemberLists
family (MoreMember n) = MoreMembers

-- what a family's parts are worth
abbrev pub Worth : Family → Type 0
Worth Files = List ItemData
Worth ClassMarks = Bool
Worth ClassParamLists = List ClassParamData
Worth Sorts = Kind
Worth ClassParams = ClassParamData
Worth MoreClassParams = List ClassParamData
Worth Literals = LiteralData
Worth States = List StateData
Worth StateMarks = Marks
Worth FirstMarks = Marks
Worth InitialMarks = Bool
Worth DeadMarks = Bool
Worth Actions = List ActionData
Worth ActionParamLists = List ActionParamData
Worth ActionParams = ActionParamData
Worth MoreActionParams = List ActionParamData
Worth Defaults = Option LiteralData
Worth Blocks = List InstrData
Worth ArgLists = List PassedData
Worth PassedArgs = PassedData
Worth MorePassed = List PassedData
Worth Waiteds = WaitedData
Worth MoreWaiteds = List WaitedData
Worth Everys = Bool
Worth Args = ArgData
Worth Branches = InstrData
Worth Arms = Two
Worth Elses = List InstrData
Worth Conds = Counted
Worth Conjs = Counted
Worth Units = Counted
Worth MoreAnds = Counted
Worth MoreOrs = Counted
Worth Senses = Bool
Worth StateLists = List (List ℕ)
Worth NameLists = List (List ℕ)
Worth MoreNames = List (List ℕ)
Worth MemberLists = List (List ℕ)
Worth MoreMembers = List (List ℕ)

-- what a part is worth
abbrev pub Value : Part → Type 0
Value n = Worth (family n)

-- what is at a place, without its values
pub data Bone : Type 0 where
  B : TokenKind → Bone
  P : Family → Bone

-- Tokens and parts in their order. What comes later may depend on what came before, its bones may not.
pub data Form (A : Type 0) : List Bone → Type 0 where
  gives : A → Form A []
  needs : (kind : TokenKind) (mark : Mark) {bones : List Bone} → (Piece → Form A bones) → Form A (B kind ∷ bones)
  calls : (n : Part) {bones : List Bone} → (Value n → Form A bones) → Form A (P (family n) ∷ bones)

-- one form behind another, whose worth it knows
infixl 10 ◌>>=◌
abbrev pub ◌>>=◌ : {A C : Type 0} {bones more : List Bone} → Form A bones → (A → Form C more) → Form C (bones ++ more)
(gives a) >>= k = k a
(needs kind mark f) >>= k = needs kind mark (λ t. f t >>= k)
(calls n f) >>= k = calls n (λ w. f w >>= k)

-- one form behind another
infixl 10 ◌>>◌
abbrev pub ◌>>◌ : {A C : Type 0} {bones more : List Bone} → Form A bones → Form C more → Form C (bones ++ more)
a >> b = a >>= (λ _. b)

-- a token that no limit refuses
abbrev pub word : (kind : TokenKind) → Form Piece (B kind ∷ [])
word kind = needs kind Fine gives

-- a token that a limit may refuse
abbrev pub limited : (kind : TokenKind) → Mark → Form Piece (B kind ∷ [])
limited kind mark = needs kind mark gives

-- a part
abbrev pub part : (n : Part) → Form (Value n) (P (family n) ∷ [])
part n = calls n gives
