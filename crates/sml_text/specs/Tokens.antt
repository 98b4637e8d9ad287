-- The tokens of a text.
use Rattle.std.specs.Prelude.{◌≡◌, ◌≤◌, ℕ, ℤ, pos, negsuc, zero, suc, ◌≤ℤ◌, ◌+◌, ◌*◌, ◌-◌, ◌^◌, Bool, true, false, List, [], ◌∷◌, ◌++◌, Option, Some, None, length, fold, if◌then◌else◌}
use Rattle.sml_text.specs.declared.source.Source.{Source}
use Rattle.sml_text.specs.declared.source.Source.TheVariants.{Line}
use Rattle.sml_text.specs.declared.source.Sign.{Sign as SignKind}
use Rattle.sml_text.specs.Bytes.{is_blank, is_letter, is_digit, is_word_byte, is_string_byte, no_line_feed, folded, sign_byte}
use Rattle.sml_text.specs.declared.limits.TheConstants.{LONGEST_NAME, LONGEST_STRING}

-- What a token is: a word in upper case, an int, the bytes between the quotes of a string, a sign, or a session.
pub data Lexeme : Type 0 where
  Word : List ℕ → Lexeme
  Int : ℤ → Lexeme
  Str : List ℕ → Lexeme
  Sign : SignKind → Lexeme
  Session : ℕ → Lexeme

-- a token, and the place of its first byte
pub record Token : Type 0 where
  pub lexeme : Lexeme
  pub at : ℕ

-- each byte passes
abbrev pub Each : (ℕ → Bool) → List ℕ → Type 0
Each p [] = Unit {0}
Each p (c ∷ cs) = (p c ≡ true) × Each p cs

-- what follows does not begin with a byte that passes
abbrev pub Over : (ℕ → Bool) → List ℕ → Type 0
Over p [] = Unit {0}
Over p (c ∷ cs) = p c ≡ false

-- a digit behind a number
abbrev pub digit_more : ℕ → ℕ → ℕ
digit_more n c = n * 10 + (c - 48)

-- the number that digits spell
abbrev pub digits_value : List ℕ → ℕ
digits_value digits = fold digit_more 0 digits

-- a number below zero, or zero
abbrev pub negated : ℕ → ℤ
negated zero = pos 0
negated (suc n) = negsuc n

-- the int that digits spell, behind a minus or not
abbrev pub int_value : Bool → List ℕ → ℤ
int_value minus digits = if minus then negated (digits_value digits) else pos (digits_value digits)

-- the bytes of a minus, or no bytes
abbrev pub minus_bytes : Bool → List ℕ
minus_bytes minus = if minus then 45 ∷ [] else []

-- an int of 64 bits
abbrev pub IsLong : ℤ → Type 0
IsLong n = (negsuc (2 ^ 63 - 1) ≤ℤ n) × (n ≤ℤ pos (2 ^ 63 - 1))

-- Stands source bytes rest what: these bytes stand in front of the rest, as a blank or a comment (nothing) or as
-- a token. Comments, words and ints are taken as long as possible.
pub data LexemeStands (source : Source) : List ℕ → List ℕ → Option Lexeme → Type 0 where
  blank : (c : ℕ) (rest : List ℕ) → is_blank c ≡ true → LexemeStands source (c ∷ []) rest None
  comment : (body rest : List ℕ) → Each no_line_feed body → Over no_line_feed rest →
      LexemeStands source (33 ∷ body) rest None
  word : (c : ℕ) (body rest : List ℕ) → is_letter c ≡ true → Each is_word_byte body → Over is_word_byte rest →
      length (c ∷ body) ≤ LONGEST_NAME
      → LexemeStands source (c ∷ body) rest (Some (Word (folded (c ∷ body))))
  int : (minus : Bool) (c : ℕ) (digits rest : List ℕ) → is_digit c ≡ true → Each is_digit digits →
      Over is_word_byte rest → IsLong (int_value minus (c ∷ digits))
      → LexemeStands source (minus_bytes minus ++ (c ∷ digits)) rest (Some (Int (int_value minus (c ∷ digits))))
  string : (body rest : List ℕ) → Each is_string_byte body → length body ≤ LONGEST_STRING →
      LexemeStands source (34 ∷ (body ++ 34 ∷ [])) rest (Some (Str body))
  sign : (s : SignKind) (rest : List ℕ) → LexemeStands source (sign_byte s ∷ []) rest (Some (Sign s))
  session : (k : ℕ) (rest : List ℕ) → source ≡ Line → 1 ≤ k → k ≤ 8 →
      LexemeStands source (64 ∷ (48 + k) ∷ []) rest (Some (Session k))

-- a lexeme as a token in front of others
abbrev pub with_token : ℕ → Option Lexeme → List Token → List Token
with_token at None ts = ts
with_token at (Some lexeme) ts = record { lexeme = lexeme; at = at } ∷ ts

-- TokensAt source at text ts: the text, whose first byte is at that place, has these tokens.
pub data TokensAt (source : Source) : ℕ → List ℕ → List Token → Type 0 where
  ends : (at : ℕ) → TokensAt source at [] []
  goes_on : (at : ℕ) (bytes rest : List ℕ) (what : Option Lexeme) (ts : List Token)
      → LexemeStands source bytes rest what → TokensAt source (at + length bytes) rest ts →
      TokensAt source at (bytes ++ rest) (with_token at what ts)

-- BadAt source at text bad: the first thing of the text that is not a blank, a comment or a token is at `bad`.
pub data BadAt (source : Source) : ℕ → List ℕ → ℕ → Type 0 where
  here : (at c : ℕ) (text : List ℕ) → ((bytes rest : List ℕ) (what : Option Lexeme) → c ∷ text ≡ bytes ++ rest →
      LexemeStands source bytes rest what → ⊥) → BadAt source at (c ∷ text) at
  later : (at : ℕ) (bytes rest : List ℕ) (what : Option Lexeme) (bad : ℕ) → LexemeStands source bytes rest what →
      BadAt source (at + length bytes) rest bad → BadAt source at (bytes ++ rest) bad

-- the text has these tokens
abbrev pub TokensOf : Source → List ℕ → List Token → Type 0
TokensOf source text ts = TokensAt source 0 text ts

-- the text has no tokens, and this is the place of the first thing that is not a token
abbrev pub BadTokenOf : Source → List ℕ → ℕ → Type 0
BadTokenOf source text bad = BadAt source 0 text bad
