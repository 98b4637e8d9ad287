-- The tokens of a text as a function: from each place on, up to the end or to the first thing that is not a token.
use Rattle.std.specs.Prelude.{◌≡◌, ℕ, zero, suc, ◌+◌, List, [], ◌∷◌, length, take, drop, Option, Some, None}
use Rattle.sml_text.specs.declared.source.Source.{Source}
use Rattle.sml_text.specs.declared.front.Front.{Front}
use Rattle.sml_text.specs.declared.front.Front.TheVariants.{End, Skip, Word as AWord, Int as AnInt, Str as AStr, Sign as ASign, Session as ASession, Bad}
use Rattle.sml_text.specs.Bytes.{folded}
use Rattle.sml_text.specs.Tokens.{Lexeme, Word, Int, Str, Sign, Session, Token, with_token}
use Rattle.sml_text.specs.Scan.{front}

-- how many bytes a thing has, and what they stand as
pub record Thing : Type 0 where
  pub size : ℕ
  pub what : Option Lexeme

-- what is at the front of a text, as a thing
abbrev pub thing_of : Front → List ℕ → Option Thing
thing_of End text = None
thing_of (Skip n) text = Some (record { size = n; what = None })
thing_of (AWord n) text = Some (record { size = n; what = Some (Word (folded (take n text))) })
thing_of (AnInt value n) text = Some (record { size = n; what = Some (Int value) })
thing_of (AStr n) text = Some (record { size = n + 2; what = Some (Str (take n (drop 1 text))) })
thing_of (ASign s) text = Some (record { size = 1; what = Some (Sign s) })
thing_of (ASession k) text = Some (record { size = 2; what = Some (Session k) })
thing_of Bad text = None

-- the first thing of a text
abbrev pub first_thing : Source → List ℕ → Option Thing
first_thing source text = thing_of (front source text) text

-- the tokens up to the end or to what is not a token, and the place of that
pub record TextReading : Type 0 where
  pub tokens : List Token
  pub bad : Option ℕ

-- a thing in front of a reading
abbrev pub with_thing : ℕ → Option Lexeme → TextReading → TextReading
with_thing at what reading = record { tokens = with_token at what reading.tokens; bad = reading.bad }

-- the first thing, and what is read behind it
abbrev pub after : Option Thing → ℕ → List ℕ → (ℕ → List ℕ → TextReading) → TextReading
after None at [] next = record { tokens = []; bad = None }
after None at (c ∷ text) next = record { tokens = []; bad = Some at }
after (Some thing) at text next = with_thing at thing.what (next (at + thing.size) (drop thing.size text))

-- what is read of the given number of things at most
abbrev pub read_things : ℕ → Source → ℕ → List ℕ → TextReading
read_things zero source at text = record { tokens = []; bad = None }
read_things (suc steps) source at text =
    after (first_thing source text) at text (λ at' text'. read_things steps source at' text')

-- what is read of a text whose first byte is at that place
abbrev pub reading : Source → ℕ → List ℕ → TextReading
reading source at text = read_things (length text) source at text

-- the tokens from a place on
abbrev pub tokens_from : Source → ℕ → List ℕ → List Token
tokens_from source at text = (reading source at text).tokens

-- the place of the first thing from a place on that is not a token
abbrev pub bad_from : Source → ℕ → List ℕ → Option ℕ
bad_from source at text = (reading source at text).bad

-- from a place on there is no token, and nothing that is not a token
abbrev pub TextEnds : Source → ℕ → List ℕ → Type 0
TextEnds source at text = (tokens_from source at text ≡ []) × (bad_from source at text ≡ None)
