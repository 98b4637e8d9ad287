-- What it means that something is at the front of a text.
use Rattle.std.specs.Prelude.{◌≡◌, ◌≤◌, ℕ, ◌+◌, Bool, true, false, List, [], ◌++◌, Option, Some, None, length, take, drop}
use Rattle.sml_text.specs.declared.source.Source.{Source}
use Rattle.sml_text.specs.declared.front.Front.{Front}
use Rattle.sml_text.specs.declared.front.Front.TheVariants.{End, Skip, Word as AWord, Int as AnInt, Str as AStr, Sign as ASign, Session as ASession, Bad}
use Rattle.sml_text.specs.Bytes.{folded}
use Rattle.sml_text.specs.Tokens.{Lexeme, Word, Int, Str, Sign, Session, LexemeStands}

-- how many bytes it takes
abbrev pub front_size : Front → ℕ
front_size End = 0
front_size (Skip n) = n
front_size (AWord n) = n
front_size (AnInt value n) = n
front_size (AStr n) = n + 2
front_size (ASign s) = 1
front_size (ASession k) = 2
front_size Bad = 0

-- what it stands as, in the text that it is at the front of
abbrev pub front_what : Front → List ℕ → Option Lexeme
front_what End text = None
front_what (Skip n) text = None
front_what (AWord n) text = Some (Word (folded (take n text)))
front_what (AnInt value n) text = Some (Int value)
front_what (AStr n) text = Some (Str (take n (drop 1 text)))
front_what (ASign s) text = Some (Sign s)
front_what (ASession k) text = Some (Session k)
front_what Bad text = None

-- neither the end nor bytes that are not a token
abbrev pub front_stands : Front → Bool
front_stands End = false
front_stands Bad = false
front_stands _ = true

-- the first `n` bytes of the text stand in front of the others as `what`
pub record StandsFirst (source : Source) (text : List ℕ) (n : ℕ) (what : Option Lexeme) : Type 0 where
  pub within : n ≤ length text
  pub stands : LexemeStands source (take n text) (drop n text) what

-- no blank, comment or token is in front of this text, for any split of it
abbrev pub NoneStands : Source → List ℕ → Type 0
NoneStands source text =
    (bytes rest : List ℕ) (what : Option Lexeme) → text ≡ bytes ++ rest → LexemeStands source bytes rest what → ⊥

-- this is at the front of the text
abbrev pub IsFront : Source → List ℕ → Front → Type 0
IsFront source text End = text ≡ []
IsFront source text (Skip n) = StandsFirst source text n None
IsFront source text (AWord n) = StandsFirst source text n (Some (Word (folded (take n text))))
IsFront source text (AnInt value n) = StandsFirst source text n (Some (Int value))
IsFront source text (AStr n) = StandsFirst source text (n + 2) (Some (Str (take n (drop 1 text))))
IsFront source text (ASign s) = StandsFirst source text 1 (Some (Sign s))
IsFront source text (ASession k) = StandsFirst source text 2 (Some (Session k))
IsFront source text Bad = (text ≡ [] → ⊥) × NoneStands source text
