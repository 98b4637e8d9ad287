-- The laws of tokens and of decimal texts.
use Rattle.std.specs.Prelude.{◌≡◌, ◌<◌, ◌^◌, ◌⊎◌, ℕ, ℤ, List, Some, None}
use Rattle.sml_text.specs.declared.source.Source.{Source}
use Rattle.sml_text.specs.Tokens.{Token, TokensAt, BadAt, TokensOf, BadTokenOf, IsLong}
use Rattle.sml_text.specs.Decimal.{IsDecimal, IsIntText, decimal_text, int_text}
use Rattle.sml_text.specs.Stream.{tokens_from, bad_from}

-- a text has tokens, or there is a place where the first thing begins that is not a token
abbrev pub SomeReading : Type 0
SomeReading = (source : Source) (text : List ℕ) → ((ts : List Token) × TokensOf source text ts)
    ⊎ ((bad : ℕ) × BadTokenOf source text bad)

-- and never both
abbrev pub OneReading : Type 0
OneReading = (source : Source) (text : List ℕ) (ts : List Token) (bad : ℕ) → TokensOf source text ts →
    BadTokenOf source text bad → ⊥

-- a text has at most one list of tokens
abbrev pub OneTokens : Type 0
OneTokens = (source : Source) (text : List ℕ) (ts us : List Token) → TokensOf source text ts → TokensOf source text us →
    ts ≡ us

-- and at most one bad place
abbrev pub OneBad : Type 0
OneBad = (source : Source) (text : List ℕ) (bad other : ℕ) → BadTokenOf source text bad → BadTokenOf source text other →
    bad ≡ other

-- the tokens of a text are what the function returns
abbrev pub TokensFrom : Type 0
TokensFrom = (source : Source) (at : ℕ) (text : List ℕ) (ts : List Token) → TokensAt source at text ts →
    tokens_from source at text ≡ ts

-- if nothing stops it, the function returns the tokens of the text
abbrev pub FromTokens : Type 0
FromTokens = (source : Source) (at : ℕ) (text : List ℕ) → bad_from source at text ≡ None →
    TokensAt source at text (tokens_from source at text)

-- and what stops it is the first bad place
abbrev pub BadFrom : Type 0
BadFrom = (source : Source) (at : ℕ) (text : List ℕ) (bad : ℕ) → BadAt source at text bad →
    bad_from source at text ≡ Some bad

-- the text of a number of 64 bits is decimal
abbrev pub SomeDecimal : Type 0
SomeDecimal = (n : ℕ) → n < 2 ^ 64 → IsDecimal n (decimal_text n)

-- and no other text is decimal of it
abbrev pub OneDecimal : Type 0
OneDecimal = (n : ℕ) (text : List ℕ) → n < 2 ^ 64 → IsDecimal n text → decimal_text n ≡ text

-- `int_text` of an int of 64 bits is a text of it
abbrev pub SomeIntText : Type 0
SomeIntText = (n : ℤ) → IsLong n → IsIntText n (int_text n)

-- and no other text is a text of it
abbrev pub OneIntText : Type 0
OneIntText = (n : ℤ) (text : List ℕ) → IsLong n → IsIntText n text → int_text n ≡ text
