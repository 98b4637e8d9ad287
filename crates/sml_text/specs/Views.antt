-- What a token in the program stands for.
use Rattle.std.specs.Prelude.{◌≤◌, ℕ, ◌+◌, ◌-◌, List, length, take, drop, IsTrue, Some}
use Rattle.sml_text.specs.declared.source.Source.{Source}
use Rattle.sml_text.specs.declared.front.Front.{Front}
use Rattle.sml_text.specs.declared.front.Front.TheVariants.{Word as AWord, Str as AStr, Session as ASession}
use Rattle.sml_text.specs.declared.tokens.Lexeme.{Lexeme as Read}
use Rattle.sml_text.specs.declared.tokens.Lexeme.TheVariants.{Word as ReadWord, Int as ReadInt, Str as ReadStr, Sign as ReadSign, Session as ReadSession}
use Rattle.sml_text.specs.declared.tokens.Token.{Token as ReadToken}
use Rattle.sml_text.specs.Bytes.{is_word, is_string_byte, folded}
use Rattle.sml_text.specs.Tokens.{Lexeme, Word, Int, Str, Sign, Session, Token, Each}
use Rattle.sml_text.specs.Front.{StandsFirst}
use Rattle.sml_text.specs.declared.limits.TheConstants.{LONGEST_STRING}

-- a lexeme, whose words are folded
abbrev pub lexeme_of : Read → Lexeme
lexeme_of (ReadWord w) = Word (folded w.now)
lexeme_of (ReadInt n) = Int n
lexeme_of (ReadStr s) = Str s.now
lexeme_of (ReadSign s) = Sign s
lexeme_of (ReadSession k) = Session k

-- a token, likewise
abbrev pub token_of : ReadToken → Token
token_of t = record { lexeme = lexeme_of t.lexeme; at = t.at }

-- in a text whose first byte is at a place, the bytes from the token's place to the place behind it are the token
abbrev pub StandsAt : Source → ℕ → List ℕ → ReadToken → ℕ → Type 0
StandsAt source at text token behind = (at ≤ token.at) × (token.at ≤ behind)
    × StandsFirst source (drop (token.at - at) text) (behind - token.at) (Some (lexeme_of token.lexeme))

-- the bytes that a token may hold
abbrev pub IsLexeme : Read → Type 0
IsLexeme (ReadWord w) = IsTrue (is_word w.now)
IsLexeme (ReadInt n) = Unit {0}
IsLexeme (ReadStr s) = Each is_string_byte s.now × (length s.now ≤ LONGEST_STRING)
IsLexeme (ReadSign s) = Unit {0}
IsLexeme (ReadSession k) = (1 ≤ k) × (k ≤ 8)

-- the bytes at the front are such
abbrev pub FrontFits : Front → List ℕ → Type 0
FrontFits (AWord n) text = (n ≤ length text) × IsTrue (is_word (take n text))
FrontFits (AStr n) text = (n + 2 ≤ length text) × Each is_string_byte (take n (drop 1 text)) × (n ≤ LONGEST_STRING)
FrontFits (ASession k) text = (1 ≤ k) × (k ≤ 8)
FrontFits _ text = Unit {0}
