-- Answers and faults that name the start which they are of.
use Rattle.std.specs.Prelude.{◌≡◌, ◌<◌, ◌^◌, ◌++◌, ◌∷◌, [], ℕ, true, List, Option, Some, None, option_map, Result, Ok, Err}
use Rattle.sml_text.specs.declared.source.Source.TheVariants as source
use Rattle.sml_text.specs.Bytes.{is_blank}
use Rattle.sml_text.specs.Decimal.{decimal_text}
use Rattle.sml_text.specs.Stream.{bad_from, tokens_from}
use Rattle.sml_text.specs.Tokens.{Lexeme, Word, Int, Str, Sign, Session}
use Rattle.sml_domain.specs.Domain.{Domain}
use Rattle.sml_domain.specs.Lookups.{object_named}
use Rattle.smi_journal_entries.specs.declared.entry.Entry.{Entry}
use Rattle.smi_journal_entries.specs.declared.entry.Sender.{Sender}
use Rattle.smi_journal_entries.specs.declared.entry.Sender.TheVariants as by
use Rattle.smi_journal_entries.specs.declared.letter.Letter.{Letter}
use Rattle.smi_journal_entries.specs.Words.{open_at}
use Rattle.smi_world.specs.declared.step.Step.{Step}
use Rattle.smi_world.specs.declared.step.Step.TheVariants as step
use Rattle.smi_lines.specs.declared.line.LineError.{LineError}
use Rattle.smi_lines.specs.Line.{LineReads, is_line, name_in, whole}
use Rattle.smi_live_once.specs.Forms.{IsUnmarked}
use Rattle.smi_live_answers.specs.declared.parts.SenderName.{SenderName}
use Rattle.smi_live_answers.specs.declared.parts.SenderName.TheVariants as sender
use Rattle.smi_live_answers.specs.EndWords.{before_end_word, body_of, comment_of, end_word, ends_off}

-- ---- the words

-- the sender that a token is: a session, or a name
abbrev pub sender_by : Lexeme → Option SenderName
sender_by (Word w) = option_map sender.Object (name_in (Word w))
sender_by (Int n) = None
sender_by (Str s) = None
sender_by (Sign s) = None
sender_by (Session k) = Some (sender.Session k)

-- the sender that a word is, where it is one token
abbrev pub sole_sender : List Lexeme → Option SenderName
sole_sender (t ∷ []) = sender_by t
sole_sender ts = None

abbrev pub sender_of_word : List ℕ → Option SenderName
sender_of_word word = whole sole_sender (tokens_from source.Line 0 word) (bad_from source.Line 0 word)

-- the last word before the comment, the one before that, and what stands before both without the blanks at its end
abbrev pub number_word : List ℕ → List ℕ
number_word line = end_word (body_of line)

abbrev pub sender_word : List ℕ → List ℕ
sender_word line = end_word (before_end_word (body_of line))

abbrev pub answer_front : List ℕ → List ℕ
answer_front line = ends_off is_blank (before_end_word (before_end_word (body_of line)))

-- a text, and after a blank the comment, if there is one
abbrev pub with_comment : List ℕ → List ℕ → List ℕ
with_comment front [] = front
with_comment front (c ∷ cs) = front ++ 32 ∷ c ∷ cs

-- a line without its last two words before the comment
abbrev pub plain_answer : List ℕ → List ℕ
plain_answer line = with_comment (answer_front line) (comment_of line)

-- ---- the lines

-- the last words of a line before its comment are a sender and a number
pub record HasStartWords (line : List ℕ) (sent : SenderName) (number : ℕ) : Type 0 where
  pub sender : sender_of_word (sender_word line) ≡ Some sent
  pub small : number < 2 ^ 64
  pub digits : number_word line ≡ decimal_text number

-- the object whose device answers or fails
abbrev pub answered_object : Step → Option (List ℕ)
answered_object (step.Request k x y args) = None
answered_object (step.Start x) = None
answered_object (step.Go x) = None
answered_object (step.Answer x y) = Some x
answered_object (step.Fault x) = Some x
answered_object (step.Kill x k) = None

abbrev pub object_answered : Result (Option Step) LineError → Option (List ℕ)
object_answered (Ok None) = None
object_answered (Ok (Some s)) = answered_object s
object_answered (Err e) = None

-- a line is an answer or a fault of an object, without a mark
pub record AnswersObject (line object : List ℕ) : Type 0 where
  pub unmarked : IsUnmarked line
  pub read : Result (Option Step) LineError
  pub reads : LineReads line read
  pub is_object : object_answered read ≡ Some object

-- what a line says that names its start: the line without SENDER and NUMBER, its object, and the two
pub record NamedView : Type 0 where
  pub plain : List ℕ
  pub object : List ℕ
  pub sender : SenderName
  pub number : ℕ

-- a line names the start that it answers: it is an answer or a fault of the object, and then SENDER and NUMBER
pub record NamesStart (line : List ℕ) (n : NamedView) : Type 0 where
  pub one : is_line line ≡ true
  pub words : HasStartWords line n.sender n.number
  pub is_plain : n.plain ≡ plain_answer line
  pub answers : AnswersObject n.plain n.object

-- ---- the start

-- the sender that has a name
abbrev pub sender_named : Domain → SenderName → Option Sender
sender_named d (sender.Session k) = Some (by.Operator k)
sender_named d (sender.Object x) = option_map by.Object (object_named d x)

-- the action that is open at the object of a line, by the entries of a journal, is that of the start which it names
pub record IsOpenStart (d : Domain) (J : List Entry) (n : NamedView) : Type 0 where
  pub object : ℕ
  pub named : object_named d n.object ≡ Some object
  pub letter : Letter
  pub is_open : open_at object J ≡ Some letter
  pub sender : sender_named d n.sender ≡ Some letter.sender
  pub number : n.number ≡ letter.number
