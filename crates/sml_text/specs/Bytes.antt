-- Classes of bytes.
use Rattle.std.specs.Prelude.{ℕ, ◌==◌, ◌&&◌, ◌||◌, nat_le, not, Bool, false, List, [], ◌∷◌, length, map}
use Rattle.std.specs.List.{list_all}
use Rattle.std.specs.Char.{is_ascii_alphabetic, is_ascii_digit, to_ascii_uppercase}
use Rattle.sml_text.specs.declared.source.Sign.{Sign}
use Rattle.sml_text.specs.declared.source.Sign.TheVariants.{Colon, Comma, Equals, OpenBracket, CloseBracket, OpenBrace, CloseBrace, Slash}
use Rattle.sml_text.specs.declared.limits.TheConstants.{LONGEST_NAME}

-- space, tab, carriage return and line feed
abbrev pub is_blank : ℕ → Bool
is_blank c = c == 32 || (c == 9 || (c == 13 || c == 10))

-- any byte except the line feed, at which a comment ends
abbrev pub no_line_feed : ℕ → Bool
no_line_feed c = not (c == 10)

-- from `A` to `Z` and from `a` to `z`
abbrev pub is_letter : ℕ → Bool
is_letter c = is_ascii_alphabetic c

-- from `0` to `9`
abbrev pub is_digit : ℕ → Bool
is_digit c = is_ascii_digit c

-- a letter, a digit or `_`
abbrev pub is_word_byte : ℕ → Bool
is_word_byte c = is_letter c || (is_digit c || c == 95)

-- what may be in a string: from the space to `~`, without the quote
abbrev pub is_string_byte : ℕ → Bool
is_string_byte c = nat_le 32 c && (nat_le c 126 && not (c == 34))

-- a byte of ASCII
abbrev pub is_ascii : ℕ → Bool
is_ascii c = nat_le c 127

-- a letter, and then letters, digits and `_`
abbrev pub is_word_text : List ℕ → Bool
is_word_text [] = false
is_word_text (c ∷ cs) = is_letter c && list_all is_word_byte cs

-- a word, no longer than it may be
abbrev pub is_word : List ℕ → Bool
is_word cs = is_word_text cs && nat_le (length cs) LONGEST_NAME

-- a word in upper case
abbrev pub folded : List ℕ → List ℕ
folded word = map to_ascii_uppercase word

-- the byte of a sign
abbrev pub sign_byte : Sign → ℕ
sign_byte Colon = 58
sign_byte Comma = 44
sign_byte Equals = 61
sign_byte OpenBracket = 40
sign_byte CloseBracket = 41
sign_byte OpenBrace = 123
sign_byte CloseBrace = 125
sign_byte Slash = 47
