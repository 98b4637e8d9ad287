-- What is at the front of a text, found by its first byte.
use Rattle.std.specs.Prelude.{ℕ, ◌+◌, ◌-◌, ◌^◌, Bool, true, false, ◌==◌, ◌&&◌, nat_le, nat_lt, List, [], ◌∷◌, length, take, drop, take_while, if◌then◌else◌}
use Rattle.sml_text.specs.declared.source.Source.{Source}
use Rattle.sml_text.specs.declared.source.Source.TheVariants.{Domain, Line}
use Rattle.sml_text.specs.declared.source.Sign.TheVariants.{Colon, Comma, Equals, OpenBracket, CloseBracket, OpenBrace, CloseBrace, Slash}
use Rattle.sml_text.specs.declared.front.Front.{Front}
use Rattle.sml_text.specs.declared.front.Front.TheVariants.{End, Skip, Word as AWord, Int as AnInt, Str as AStr, Sign as ASign, Session as ASession, Bad}
use Rattle.sml_text.specs.Bytes.{is_blank, is_letter, is_digit, is_word_byte, is_string_byte, no_line_feed}
use Rattle.sml_text.specs.Tokens.{int_value, digits_value}
use Rattle.sml_text.specs.declared.limits.TheConstants.{LONGEST_NAME, LONGEST_STRING}

-- how many bytes at the front pass
abbrev pub span : (ℕ → Bool) → List ℕ → ℕ
span p text = length (take_while p text)

-- some byte passes in front
abbrev pub passes_first : (ℕ → Bool) → List ℕ → Bool
passes_first p [] = false
passes_first p (c ∷ text) = p c

-- the quote
abbrev pub is_quote : ℕ → Bool
is_quote c = c == 34

-- the word whose first letter is just before this text
abbrev pub word_front : List ℕ → Front
word_front text = if nat_le (span is_word_byte text + 1) LONGEST_NAME then AWord (span is_word_byte text + 1) else Bad

-- the number below zero or not is one of 64 bits
abbrev pub is_long : Bool → ℕ → Bool
is_long minus n = if minus then nat_le n (2 ^ 63) else nat_lt n (2 ^ 63)

-- the bytes of a minus
abbrev pub minus_size : Bool → ℕ
minus_size minus = if minus then 1 else 0

-- the int whose digits begin this text
abbrev pub int_front : Bool → List ℕ → Front
int_front minus text =
    if span is_digit text == 0 then Bad else
    if passes_first is_word_byte (drop (span is_digit text) text) then Bad else
    if is_long minus (digits_value (take (span is_digit text) text))
    then AnInt (int_value minus (take (span is_digit text) text)) (span is_digit text + minus_size minus)
    else Bad

-- the string whose opening quote is just before this text
abbrev pub string_front : List ℕ → Front
string_front text =
    if nat_le (span is_string_byte text) LONGEST_STRING && passes_first is_quote (drop (span is_string_byte text) text)
    then AStr (span is_string_byte text) else Bad

-- the session whose `@` is just before this text
abbrev pub session_front : Source → List ℕ → Front
session_front Domain text = Bad
session_front Line [] = Bad
session_front Line (c ∷ text) = if nat_le 49 c && nat_le c 56 then ASession (c - 48) else Bad

-- the sign of a byte
abbrev pub sign_front : ℕ → Front
sign_front c =
    if c == 58 then ASign Colon else
    if c == 44 then ASign Comma else
    if c == 61 then ASign Equals else
    if c == 40 then ASign OpenBracket else
    if c == 41 then ASign CloseBracket else
    if c == 123 then ASign OpenBrace else
    if c == 125 then ASign CloseBrace else
    if c == 47 then ASign Slash else
    Bad

-- what is in front, by the first byte
abbrev pub front : Source → List ℕ → Front
front source [] = End
front source (c ∷ text) =
    if is_blank c then Skip 1 else
    if c == 33 then Skip (span no_line_feed text + 1) else
    if is_letter c then word_front text else
    if is_digit c then int_front false (c ∷ text) else
    if c == 45 then int_front true text else
    if c == 34 then string_front text else
    if c == 64 then session_front source text else
    sign_front c
