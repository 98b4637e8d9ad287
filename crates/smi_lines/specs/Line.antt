-- What a line of a schedule asks.
use Rattle.std.specs.Prelude.{◌≡◌, ◌≤◌, ℕ, Bool, true, false, ◌&&◌, nat_le, List, [], ◌∷◌, length, map, Option, Some, None, option_map, Result, Ok, Err, codes, if◌then◌else◌}
use Rattle.std.specs.List.{list_all}
use Rattle.sml_text.specs.declared.source.Source.TheVariants as source
use Rattle.sml_text.specs.declared.source.Sign.{Sign as SignKind}
use Rattle.sml_text.specs.declared.source.Sign.TheVariants as sign
use Rattle.sml_text.specs.Bytes.{is_ascii, no_line_feed}
use Rattle.sml_text.specs.Tokens.{Lexeme, Word, Int, Str, Sign, Session, Token, TokensOf, BadTokenOf}
use Rattle.sml_tree.specs.Piece.{is_reserved}
use Rattle.sml_domain.specs.declared.value.Value.{Value}
use Rattle.sml_domain.specs.declared.value.Value.TheVariants as value
use Rattle.sml_domain.specs.Names.{same_name}
use Rattle.sml_domain.specs.Completing.{Passed}
use Rattle.smi_world.specs.declared.step.Step.{Step}
use Rattle.smi_world.specs.declared.step.Step.TheVariants as step
use Rattle.smi_lines.specs.declared.line.LineError.{LineError}
use Rattle.smi_lines.specs.declared.line.LineError.TheVariants as error
use Rattle.smi_lines.specs.declared.line.TheConstants.{LONGEST_LINE}
use Rattle.sml_tree.specs.declared.limits.TheConstants.{MAX_ARGUMENTS}

-- ---- single tokens

-- the name that a token is: a word that is not reserved
abbrev pub name_in : Lexeme → Option (List ℕ)
name_in (Word w) = if is_reserved w then None else Some w
name_in (Int n) = None
name_in (Str s) = None
name_in (Sign s) = None
name_in (Session k) = None

-- the session that a token is
abbrev pub session_in : Lexeme → Option ℕ
session_in (Word w) = None
session_in (Int n) = None
session_in (Str s) = None
session_in (Sign s) = None
session_in (Session k) = Some k

-- the value that a token is
abbrev pub value_of_token : Lexeme → Option Value
value_of_token (Word w) = None
value_of_token (Int n) = Some (value.Int n)
value_of_token (Str s) = Some (value.Text s)
value_of_token (Sign s) = None
value_of_token (Session k) = None

-- the sign that a token is
abbrev pub sign_in : Lexeme → Option SignKind
sign_in (Word w) = None
sign_in (Int n) = None
sign_in (Str s) = None
sign_in (Sign s) = Some s
sign_in (Session k) = None

-- ---- arguments

-- a name, an equals sign and a value
abbrev pub passed_by_tokens : Option (List ℕ) → Option SignKind → Option Value → Option Passed
passed_by_tokens (Some n) (Some sign.Equals) (Some v) = Some (record { name = n; value = v })
passed_by_tokens n s v = None

-- one argument more in front
abbrev pub with_passed : Option Passed → Option (List Passed) → Option (List Passed)
with_passed (Some x) (Some xs) = Some (x ∷ xs)
with_passed (Some x) None = None
with_passed None xs = None

-- what follows an argument: nothing behind a closing bracket, and more behind a comma
abbrev pub behind_argument : Option SignKind → List Lexeme → Option (List Passed) → Option (List Passed)
behind_argument (Some sign.CloseBracket) [] more = Some []
behind_argument (Some sign.Comma) words more = more
behind_argument s words more = None

-- nothing more behind the last argument, and else what there is
abbrev pub unless_last : Bool → Option (List Passed) → Option (List Passed)
unless_last true more = Some []
unless_last false more = more

-- NAME = value, .. )
abbrev pub arguments_in : List Lexeme → Option (List Passed)
arguments_in (n ∷ e ∷ v ∷ s ∷ words) =
    with_passed (passed_by_tokens (name_in n) (sign_in e) (value_of_token v))
    (behind_argument (sign_in s) words (arguments_in words))
arguments_in words = None

-- no more arguments than a line may have
abbrev pub not_too_many : Option (List Passed) → Option (List Passed)
not_too_many None = None
not_too_many (Some xs) = if nat_le (length xs) MAX_ARGUMENTS then Some xs else None

-- the arguments behind the action of a request: no arguments, or those in brackets
abbrev pub passed_in : List Lexeme → Option (List Passed)
passed_in [] = Some []
passed_in (Sign sign.OpenBracket ∷ words) = not_too_many (arguments_in words)
passed_in (x ∷ words) = None

-- ---- steps

-- a request, where all its parts are there
abbrev pub requested : Option ℕ → Option (List ℕ) → Option (List ℕ) → Option (List Passed) → Option Step
requested (Some k) (Some o) (Some a) (Some xs) = Some (step.Request k o a xs)
requested k o a xs = None

-- @S OBJECT ACTION, and its arguments
abbrev pub request_in : List Lexeme → Option Step
request_in (k ∷ o ∷ a ∷ words) = requested (session_in k) (name_in o) (name_in a) (passed_in words)
request_in words = None

-- the one name of a list
abbrev pub sole_name : List Lexeme → Option (List ℕ)
sole_name (o ∷ []) = name_in o
sole_name words = None

-- a device's answer, where both names are there
abbrev pub answered : Option (List ℕ) → Option (List ℕ) → Option Step
answered (Some o) (Some s) = Some (step.Answer o s)
answered o s = None

-- OBJECT STATE
abbrev pub answer_in : List Lexeme → Option Step
answer_in (o ∷ s ∷ []) = answered (name_in o) (name_in s)
answer_in words = None

-- a kill, where its object and its session are there
abbrev pub killed : Option (List ℕ) → Option ℕ → Option Step
killed (Some o) (Some k) = Some (step.Kill o k)
killed o k = None

-- OBJECT @S
abbrev pub kill_in : List Lexeme → Option Step
kill_in (o ∷ k ∷ []) = killed (name_in o) (session_in k)
kill_in words = None

-- what is behind the first word of a step that is not a request
abbrev pub named_in : List ℕ → List Lexeme → Option Step
named_in verb words =
    if same_name verb (codes "START") then option_map step.Start (sole_name words) else
    if same_name verb (codes "GO") then option_map step.Go (sole_name words) else
    if same_name verb (codes "ANSWER") then answer_in words else
    if same_name verb (codes "FAULT") then option_map step.Fault (sole_name words) else
    if same_name verb (codes "KILL") then kill_in words else None

-- what is behind the first word of a step
abbrev pub step_in : Option (List ℕ) → List Lexeme → Option Step
step_in None words = None
step_in (Some verb) words = if same_name verb (codes "REQUEST") then request_in words else named_in verb words

-- ---- lines

-- the lexemes of tokens
abbrev pub lexemes : List Token → List Lexeme
lexemes ts = map (λ (t : Token). t.lexeme) ts

-- what is asked by tokens where they are the whole text, and nothing where something bad stops them
abbrev pub whole : {X : Type 0} → (List Lexeme → Option X) → List Token → Option ℕ → Option X
whole f ts None = f (lexemes ts)
whole f ts (Some bad) = None

-- the step, or else a bad line
abbrev pub or_bad : Option Step → Result (Option Step) LineError
or_bad None = Err error.BadLine
or_bad (Some s) = Ok (Some s)

-- what the tokens of a line ask: nothing if there are no tokens
abbrev pub step_asked : List Lexeme → Result (Option Step) LineError
step_asked [] = Ok None
step_asked (verb ∷ words) = or_bad (step_in (name_in verb) words)

-- the answer to tokens. Out of memory comes only where there are more than those of a request without arguments
abbrev pub AnswersTokens : List Lexeme → Result (Option Step) LineError → Type 0
AnswersTokens words (Err error.Memory) = 5 ≤ length words
AnswersTokens words r = r ≡ step_asked words

-- whether bytes are a line: not too many, all of them ASCII, and without a line feed
abbrev pub is_line : List ℕ → Bool
is_line line = nat_le (length line) LONGEST_LINE && (list_all is_ascii line && list_all no_line_feed line)

-- the answer to a line that is a list of tokens, or to one with something bad in it
pub record ReadsTokens (line : List ℕ) (r : Result (Option Step) LineError) : Type 0 where
  pub tokens : (ts : List Token) → TokensOf source.Line line ts → AnswersTokens (lexemes ts) r
  pub bad : (place : ℕ) → BadTokenOf source.Line line place → r ≡ Err error.BadLine

-- the answer to bytes that are a line, or to bytes that are not a line
abbrev pub LineAnswers : Bool → List ℕ → Result (Option Step) LineError → Type 0
LineAnswers true line r = ReadsTokens line r
LineAnswers false line r = r ≡ Err error.BadLine

-- the answer to a line
abbrev pub LineReads : List ℕ → Result (Option Step) LineError → Type 0
LineReads line r = LineAnswers (is_line line) line r
