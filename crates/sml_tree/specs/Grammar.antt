-- The grammar: the ways to write each part. Above each part is its rule in the grammar's own notation:
-- `[x]` is x or nothing, `x*` any number of x, `x+,` one or more x with commas between them.
use Rattle.std.specs.Prelude.{ℕ, ◌+◌, List, [], ◌∷◌, ◌++◌, Option, Some, None, nat_lt, true, false, map, if◌then◌else◌}
use Rattle.sml_tree.specs.declared.token_kind.TokenKind.{TokenKind}
use Rattle.sml_tree.specs.declared.token_kind.TokenKind.TheVariants.{Class, Object, ObjectSet, IsOfClass, State, Action, Parameters, IntKind, StringKind, Do, If, Then, Else, Endif, Set, MoveTo, TerminateAction, Wait, Insert, Remove, In, From, InState, NotInState, AllIn, AnyIn, And, Or, Not, Associated, InitialState, DeadState, Colon, Comma, Equals, OpenBracket, CloseBracket, OpenBrace, CloseBrace, Slash, Name, Int, Str}
use Rattle.sml_tree.specs.declared.file.Kind.{Kind}
use Rattle.sml_tree.specs.declared.file.Kind.TheVariants as sort
use Rattle.sml_tree.specs.declared.cond.Scope.{Scope}
use Rattle.sml_tree.specs.declared.cond.Scope.TheVariants as scope
use Rattle.sml_tree.specs.Syntax.{int, str, lit, param, both, either, neither, test, send, choose, assign, move_to, terminate, wait_for, insert_in, remove_from, class, object, group}
use Rattle.sml_tree.specs.Content.{block_of}
use Rattle.sml_tree.specs.Piece.{Piece, word_of, int_of, bytes_of}
use Rattle.sml_tree.specs.Form as of
use Rattle.sml_tree.specs.Form.{Bone, B, P, Form, gives, ◌>>=◌, ◌>>◌, word, limited, part, Mark, Fine, Deep, Many, Part, family, Value, Counted}
use Rattle.sml_tree.specs.declared.limits.TheConstants.{MAX_CLASSES, MAX_OBJECTS, MAX_SETS, MAX_STATES, MAX_ACTIONS, MAX_PARAMETERS, MAX_ARGUMENTS, MAX_MEMBERS, MAX_NAMES, MAX_WAITED, MAX_TESTS, MAX_IFS, MAX_OPEN}

-- a limit, and the count of what is before
abbrev pub most : ℕ → ℕ → Mark → Mark
most limit count mark = if nat_lt count limit then Fine else mark

-- One way to write a part: it begins with a token of this kind, and the rest follows.
pub record Rule (n : Part) : Type 0 where
  pub kind : TokenKind
  pub mark : Mark
  pub bones : List Bone
  pub rest : Piece → Form (Value n) bones

-- a way to write a part
abbrev pub way : {n : Part} {bones : List Bone} (kind : TokenKind) → Mark → (Piece → Form (Value n) bones) → Rule n
way {bones = bones} kind mark rest = record { kind = kind; mark = mark; bones = bones; rest = rest }

-- a way to write a part, and what follows it in another part
abbrev pub begun : {more : List Bone} (n m : Part) → (Value n → Form (Value m) more) → Rule n → Rule m
begun {more = more} n m k r =
    record { kind = r.kind; mark = r.mark; bones = r.bones ++ more; rest = λ t. r.rest t >>= k }

-- the name that a token is
abbrev pub name : Piece → List ℕ
name t = word_of t.lexeme

-- kind = INT | STRING
abbrev pub kind_rules : (n : ℕ) → List (Rule (of.Sort n))
kind_rules n =
    way IntKind (most MAX_PARAMETERS n Many) (λ _. gives sort.Int)
    ∷ way StringKind (most MAX_PARAMETERS n Many) (λ _. gives sort.Str)
    ∷ []

-- name = value
abbrev pub class_param : (sort : Kind) → Form (of.Worth of.ClassParams) (B Name ∷ B Equals ∷ P of.Literals ∷ [])
class_param sort = do
  t ← word Name
  word Equals
  value ← part of.Literal
  gives (record { kind = sort; name = name t; value = value })

-- name [ = value ]
abbrev pub action_param : (sort : Kind) → Form (of.Worth of.ActionParams) (B Name ∷ P of.Defaults ∷ [])
action_param sort = do
  t ← word Name
  default ← part of.Default
  gives (record { kind = sort; name = name t; default = default })

-- cparam = kind name = value
abbrev pub class_param_rules : (n : ℕ) → List (Rule (of.ClassParam n))
class_param_rules n = map (begun (of.Sort n) (of.ClassParam n) class_param) (kind_rules n)

-- aparam = kind name [ = value ]
abbrev pub action_param_rules : (n : ℕ) → List (Rule (of.ActionParam n))
action_param_rules n = map (begun (of.Sort n) (of.ActionParam n) action_param) (kind_rules n)

-- ( IN_STATE | NOT_IN_STATE ) states
abbrev pub asks_part : Scope → List ℕ → ℕ → Form Counted (P of.Senses ∷ P of.StateLists ∷ [])
asks_part scope name tests = do
  negated ← part of.Sense
  states ← part of.StateList
  gives (record {
    formula = test (record { scope = scope; name = name; negated = negated; states = states });
    count =
        tests + 1;
  })

-- unit = NOT unit | ( cond ) | test
-- test = [ ALL_IN | ANY_IN ] name ( IN_STATE | NOT_IN_STATE ) states
abbrev pub unit_rules : (depth tests : ℕ) → List (Rule (of.Unit' depth tests))
unit_rules depth tests =
    way Not (most MAX_OPEN depth Deep) (λ _. do
      unit ← part (of.Unit' (depth + 1) tests)
      gives (record { formula = neither unit.formula; count = unit.count }))
    ∷ way OpenBracket (most MAX_OPEN depth Deep) (λ _. do
      inner ← part (of.Cond (depth + 1) tests)
      word CloseBracket
      gives inner)
    ∷ way Name (most MAX_TESTS tests Many) (λ t. asks_part scope.One (name t) tests)
    ∷ way AllIn (most MAX_TESTS tests Many) (λ _. do
      t ← word Name
      asks_part scope.All (name t) tests)
    ∷ way AnyIn (most MAX_TESTS tests Many) (λ _. do
      t ← word Name
      asks_part scope.Any (name t) tests)
    ∷ []

-- conj = unit ( AND unit )*, grouped from the left
abbrev pub conj_rules : (depth tests : ℕ) → List (Rule (of.Conj depth tests))
conj_rules depth tests = map (begun (of.Unit' depth tests) (of.Conj depth tests)
    (λ unit. part (of.MoreAnd depth unit.count unit.formula))) (unit_rules depth tests)

-- cond = conj ( OR conj )*, grouped from the left
abbrev pub cond_rules : (depth tests : ℕ) → List (Rule (of.Cond depth tests))
cond_rules depth tests = map (begun (of.Conj depth tests) (of.Cond depth tests)
    (λ one. part (of.MoreOr depth one.count one.formula))) (conj_rules depth tests)

-- what a part is worth that is left out, if it may be
abbrev pub empty : (n : Part) → Option (Value n)
empty (of.File classes objects sets) = Some []
empty of.ClassMark = Some false
empty of.ClassParamList = Some []
empty (of.MoreClassParam n) = Some []
empty (of.State n) = Some []
empty of.StateMark = Some (record { initial = false; dead = false })
empty of.InitialMark = Some false
empty of.DeadMark = Some false
empty (of.Action n) = Some []
empty of.ActionParamList = Some []
empty (of.MoreActionParam n) = Some []
empty of.Default = Some None
empty (of.Block depth) = Some []
empty of.ArgList = Some []
empty (of.MorePassedArg n) = Some []
empty (of.MoreWaited n) = Some []
empty of.Every = Some false
empty (of.Else depth) = Some []
empty (of.MoreAnd depth tests left) = Some (record { formula = left; count = tests })
empty (of.MoreOr depth tests left) = Some (record { formula = left; count = tests })
empty (of.MoreName n) = Some []
empty of.Members = Some []
empty (of.MoreMember n) = Some []
empty _ = None

-- the ways to write a part
abbrev pub rules : (n : Part) → List (Rule n)
-- file = ( class | object | group )*
-- class = CLASS : name [ / ASSOCIATED ] [ PARAMETERS : cparam+, ] state*
-- object = OBJECT : name IS_OF_CLASS name
-- group = OBJECTSET : name { [ name+, ] }
rules (of.File classes objects sets) =
    way Class (most MAX_CLASSES classes Many) (λ _. do
      word Colon
      t ← word Name
      associated ← part of.ClassMark
      params ← part of.ClassParamList
      states ← part (of.State 0)
      file ← part (of.File (classes + 1) objects sets)
      gives (class (record { name = name t; associated = associated; params = params; states = states }) ∷ file))
    ∷ way Object (most MAX_OBJECTS objects Many) (λ _. do
      word Colon
      t ← word Name
      word IsOfClass
      c ← word Name
      file ← part (of.File classes (objects + 1) sets)
      gives (object (record { name = name t; class = name c }) ∷ file))
    ∷ way ObjectSet (most MAX_SETS sets Many) (λ _. do
      word Colon
      t ← word Name
      word OpenBrace
      members ← part of.Members
      word CloseBrace
      file ← part (of.File classes objects (sets + 1))
      gives (group (record { name = name t; members = members }) ∷ file))
    ∷ []
-- [ / ASSOCIATED ]
rules of.ClassMark =
    way Slash Fine (λ _. do
      word Associated
      gives true)
    ∷ []
-- [ PARAMETERS : cparam+, ]
rules of.ClassParamList =
    way Parameters Fine (λ _. do
      word Colon
      first ← part (of.ClassParam 0)
      others ← part (of.MoreClassParam 1)
      gives (first ∷ others))
    ∷ []
rules (of.Sort n) = kind_rules n
rules (of.ClassParam n) = class_param_rules n
rules (of.MoreClassParam n) =
    way Comma Fine (λ _. do
      first ← part (of.ClassParam n)
      others ← part (of.MoreClassParam (n + 1))
      gives (first ∷ others))
    ∷ []
-- value = int | string
rules of.Literal =
    way Int Fine (λ t. gives (int (int_of t.lexeme)))
    ∷ way Str Fine (λ t. gives (str (bytes_of t.lexeme)))
    ∷ []
-- state = STATE : name marks action*
rules (of.State n) =
    way State (most MAX_STATES n Many) (λ _. do
      word Colon
      t ← word Name
      marks ← part of.StateMark
      actions ← part (of.Action 0)
      others ← part (of.State (n + 1))
      gives (record { name = name t; initial = marks.initial; dead = marks.dead; actions = actions } ∷ others))
    ∷ []
-- marks = nothing | / INITIAL_STATE | / DEAD_STATE | both, in either order
rules of.StateMark = way Slash Fine (λ _. part of.FirstMark) ∷ []
rules of.FirstMark =
    way InitialState Fine (λ _. do
      dead ← part of.DeadMark
      gives (record { initial = true; dead = dead }))
    ∷ way DeadState Fine (λ _. do
      initial ← part of.InitialMark
      gives (record { initial = initial; dead = true }))
    ∷ []
rules of.InitialMark =
    way Slash Fine (λ _. do
      word InitialState
      gives true)
    ∷ []
rules of.DeadMark =
    way Slash Fine (λ _. do
      word DeadState
      gives true)
    ∷ []
-- action = ACTION : name [ ( aparam+, ) ] block
rules (of.Action n) =
    way Action (most MAX_ACTIONS n Many) (λ _. do
      word Colon
      t ← word Name
      params ← part of.ActionParamList
      body ← part (of.Block 0)
      others ← part (of.Action (n + 1))
      gives (record { name = name t; params = params; body = block_of body } ∷ others))
    ∷ []
-- [ ( aparam+, ) ]
rules of.ActionParamList =
    way OpenBracket Fine (λ _. do
      first ← part (of.ActionParam 0)
      others ← part (of.MoreActionParam 1)
      word CloseBracket
      gives (first ∷ others))
    ∷ []
rules (of.ActionParam n) = action_param_rules n
rules (of.MoreActionParam n) =
    way Comma Fine (λ _. do
      first ← part (of.ActionParam n)
      others ← part (of.MoreActionParam (n + 1))
      gives (first ∷ others))
    ∷ []
-- [ = value ]
rules of.Default =
    way Equals Fine (λ _. do
      value ← part of.Literal
      gives (Some value))
    ∷ []
-- block = instr*
-- instr = DO name [ ( passed+, ) ] [ ALL_IN ] name
--       | IF ( cond ) THEN block [ ELSE block ] ENDIF
--       | SET name = arg
--       | MOVE_TO name
--       | TERMINATE_ACTION / STATE = name
--       | WAIT ( waited+, )
--       | INSERT name IN name
--       | REMOVE name FROM name
rules (of.Block depth) =
    way Do Fine (λ _. do
      action ← word Name
      args ← part of.ArgList
      all ← part of.Every
      target ← word Name
      block ← part (of.Block depth)
      gives (send (record { action = name action; args = args; all = all; target = name target }) ∷ block))
    ∷ way If (most MAX_IFS depth Deep) (λ _. do
      branch ← part (of.Branch depth)
      block ← part (of.Block depth)
      gives (branch ∷ block))
    ∷ way Set Fine (λ _. do
      t ← word Name
      word Equals
      value ← part of.Arg
      block ← part (of.Block depth)
      gives (assign (name t) value ∷ block))
    ∷ way MoveTo Fine (λ _. do
      state ← word Name
      block ← part (of.Block depth)
      gives (move_to (name state) ∷ block))
    ∷ way TerminateAction Fine (λ _. do
      word Slash
      word State
      word Equals
      state ← word Name
      block ← part (of.Block depth)
      gives (terminate (name state) ∷ block))
    ∷ way Wait Fine (λ _. do
      word OpenBracket
      first ← part (of.Waited 0)
      others ← part (of.MoreWaited 1)
      word CloseBracket
      block ← part (of.Block depth)
      gives (wait_for (first ∷ others) ∷ block))
    ∷ way Insert Fine (λ _. do
      member ← word Name
      word In
      set ← word Name
      block ← part (of.Block depth)
      gives (insert_in (name member) (name set) ∷ block))
    ∷ way Remove Fine (λ _. do
      member ← word Name
      word From
      set ← word Name
      block ← part (of.Block depth)
      gives (remove_from (name member) (name set) ∷ block))
    ∷ []
-- waited = name | ALL_IN name
rules (of.Waited n) =
    way Name (most MAX_WAITED n Many) (λ t. gives (record { all = false; name = name t }))
    ∷ way AllIn (most MAX_WAITED n Many) (λ _. do
      t ← word Name
      gives (record { all = true; name = name t }))
    ∷ []
rules (of.MoreWaited n) =
    way Comma Fine (λ _. do
      first ← part (of.Waited n)
      others ← part (of.MoreWaited (n + 1))
      gives (first ∷ others))
    ∷ []
-- [ ( passed+, ) ]
rules of.ArgList =
    way OpenBracket Fine (λ _. do
      first ← part (of.Passed 0)
      others ← part (of.MorePassedArg 1)
      word CloseBracket
      gives (first ∷ others))
    ∷ []
-- passed = name = arg
rules (of.Passed n) =
    way Name (most MAX_ARGUMENTS n Many) (λ t. do
      word Equals
      value ← part of.Arg
      gives (record { name = name t; value = value }))
    ∷ []
rules (of.MorePassedArg n) =
    way Comma Fine (λ _. do
      first ← part (of.Passed n)
      others ← part (of.MorePassedArg (n + 1))
      gives (first ∷ others))
    ∷ []
-- [ ALL_IN ]
rules of.Every = way AllIn Fine (λ _. gives true) ∷ []
-- arg = value | name
rules of.Arg =
    way Int Fine (λ t. gives (lit (int (int_of t.lexeme))))
    ∷ way Str Fine (λ t. gives (lit (str (bytes_of t.lexeme))))
    ∷ way Name Fine (λ t. gives (param (name t)))
    ∷ []
-- ( cond ) and the two blocks
rules (of.Branch depth) =
    way OpenBracket Fine (λ _. do
      condition ← part (of.Cond 0 0)
      word CloseBracket
      arms ← part (of.Arm depth)
      gives (choose condition.formula (block_of arms.yes_part) (block_of arms.no_part)))
    ∷ []
-- THEN block [ ELSE block ] ENDIF
rules (of.Arm depth) =
    way Then Fine (λ _. do
      inner ← part (of.Block (depth + 1))
      other ← part (of.Else (depth + 1))
      word Endif
      gives (record { yes_part = inner; no_part = other }))
    ∷ []
rules (of.Else depth) = way Else Fine (λ _. part (of.Block depth)) ∷ []
rules (of.Cond depth tests) = cond_rules depth tests
rules (of.Conj depth tests) = conj_rules depth tests
rules (of.Unit' depth tests) = unit_rules depth tests
-- ( AND unit )*
rules (of.MoreAnd depth tests left) =
    way And Fine (λ _. do
      unit ← part (of.Unit' depth tests)
      part (of.MoreAnd depth unit.count (both left unit.formula)))
    ∷ []
-- ( OR conj )*
rules (of.MoreOr depth tests left) =
    way Or Fine (λ _. do
      one ← part (of.Conj depth tests)
      part (of.MoreOr depth one.count (either left one.formula)))
    ∷ []
-- IN_STATE | NOT_IN_STATE
rules of.Sense =
    way InState Fine (λ _. gives false)
    ∷ way NotInState Fine (λ _. gives true)
    ∷ []
-- states = name | { name+, }
rules of.StateList =
    way Name Fine (λ t. gives (name t ∷ []))
    ∷ way OpenBrace Fine (λ _. do
      list ← part of.Names
      word CloseBrace
      gives list)
    ∷ []
rules of.Names =
    way Name Fine (λ t. do
      others ← part (of.MoreName 1)
      gives (name t ∷ others))
    ∷ []
rules (of.MoreName n) =
    way Comma Fine (λ _. do
      t ← limited Name (most MAX_NAMES n Many)
      others ← part (of.MoreName (n + 1))
      gives (name t ∷ others))
    ∷ []
-- [ name+, ]
rules of.Members =
    way Name Fine (λ t. do
      others ← part (of.MoreMember 1)
      gives (name t ∷ others))
    ∷ []
rules (of.MoreMember n) =
    way Comma Fine (λ _. do
      t ← limited Name (most MAX_MEMBERS n Many)
      others ← part (of.MoreMember (n + 1))
      gives (name t ∷ others))
    ∷ []
