-- Words and names.
use Rattle.std.proofs.Common.{◌≡◌, ℕ, ℤ, Bor, List, [], ◌∷◌, ◌++◌, refl, ap, sym, subst, ◌∙◌, IsTrue, Bool, true, false, ◌&&◌, ◌||◌, ◌==◌, not, nat_le, nat_eq, length, if◌then◌else◌}
use Rattle.std.specs.List.{list_all}
use Rattle.std.specs.Cmp.Lexicographic.{pointwise}
use Rattle.std.specs.Char.{is_ascii_alphabetic, is_ascii_digit}
use Rattle.sml_text.specs.Bytes as text
use Rattle.sml_tree.specs.Word as tree
use Rattle.sml_tree.specs.declared.token_kind.TokenKind.{TokenKind}
use Rattle.sml_tree.specs.declared.token_kind.TokenKind.TheVariants.{Int, Str}
use Rattle.sml_tree.specs.Piece.{Reserved, reserved, mark_words, kind_in, word_kind, sign_kind, piece_kind}
use Rattle.sml_text.specs.declared.source.Sign.{Sign}
use Rattle.sml_text.specs.declared.source.Sign.TheVariants as sign
use Rattle.sml_text.specs.declared.tokens.Token.{Token}
use Rattle.sml_text.specs.declared.tokens.Lexeme.{Lexeme}
use Rattle.sml_text.specs.declared.tokens.Lexeme.TheVariants as lexeme
use Rattle.sml_text.specs.Views.{lexeme_of}
use Rattle.sml_read_parts.specs.Held.{IsHeld}
use Rattle.sml_text.specs.declared.limits.TheConstants.{LONGEST_NAME}

grouped : (a b d : Bool) → (a || (b || d)) ≡ ((a || b) || d)
grouped true b d = refl
grouped false b d = refl

same_byte : (c : ℕ) → text.is_word_byte c ≡ tree.is_name_byte c
same_byte c = grouped (is_ascii_alphabetic c) (is_ascii_digit c) (c == 95)

same_bytes : (w : List ℕ) → list_all text.is_word_byte w ≡ list_all tree.is_name_byte w
same_bytes [] = refl
same_bytes (c ∷ w) = rw (same_byte c, same_bytes w) refl

same_text : (w : List ℕ) → text.is_word_text w ≡ tree.is_name_text w
same_text [] = refl
same_text (c ∷ w) = ap (λ (b : Bool). is_ascii_alphabetic c && b) (same_bytes w)

-- what the text takes for a word may be a name
pub name_word : (w : List ℕ) → IsTrue (text.is_word w) → IsTrue (tree.is_name_word w)
name_word w h = subst (λ (b : Bool). IsTrue (b && nat_le (length w) LONGEST_NAME)) (same_text w) h

-- the kind of an int or of a string
abbrev is_value : TokenKind → Bool
is_value Int = true
is_value Str = true
is_value _ = false

-- no row is of such a kind
abbrev no_values : List Reserved → Bool
no_values [] = true
no_values (row ∷ rows) = not (is_value row.kind) && no_values rows

first_plain : (k rest : TokenKind) (b : Bool) → is_value k ≡ false → is_value rest ≡ false → is_value (if b then k else rest) ≡ false
first_plain k rest true e h = e
first_plain k rest false e h = h

split : (a b : Bool) → (not a && b) ≡ true → (a ≡ false) × (b ≡ true)
split true b h = absurd (cc h)
split false b h = (refl, h)

plain_kind : (rows : List Reserved) (w : List ℕ) → no_values rows ≡ true → is_value (kind_in rows w) ≡ false
plain_kind [] w h = refl
plain_kind (row ∷ rows) w h = let s = split (is_value row.kind) (no_values rows) h in first_plain row.kind (kind_in rows w) (pointwise nat_eq w row.word) s.0 (plain_kind rows w s.1)

word_value : (slash : Bool) (w : List ℕ) → is_value (word_kind slash w) ≡ false
word_value true w = plain_kind (mark_words ++ reserved) w refl
word_value false w = plain_kind reserved w refl

-- a word is not an int
pub word_no_int : (slash : Bool) (w : List ℕ) → word_kind slash w ≡ Int → ⊥
word_no_int slash w h = let e = word_value slash w in let v : is_value Int ≡ false = ap is_value (sym h) ∙ e in absurd (cc v)

-- a word is not a string
pub word_no_str : (slash : Bool) (w : List ℕ) → word_kind slash w ≡ Str → ⊥
word_no_str slash w h = let e = word_value slash w in let v : is_value Str ≡ false = ap is_value (sym h) ∙ e in absurd (cc v)

sign_no_int : (s : Sign) → sign_kind s ≡ Int → ⊥
sign_no_int sign.Slash e = absurd (cc e)
sign_no_int _ e = absurd (cc e)

sign_no_str : (s : Sign) → sign_kind s ≡ Str → ⊥
sign_no_str sign.Slash e = absurd (cc e)
sign_no_str _ e = absurd (cc e)

-- a token of the kind of an int is one
pub int_held : (k : TokenKind) (t : Token) → IsHeld k t → k ≡ Int → ((n : ℤ) → t.lexeme ≡ lexeme.Int n → ⊥) → ⊥
int_held k t h e none = go t.lexeme (sym h.kind ∙ e) none
  where
    go : (l : Lexeme) → piece_kind h.slash (lexeme_of l) ≡ Int → ((n : ℤ) → l ≡ lexeme.Int n → ⊥) → ⊥
    go (lexeme.Word w) e' none' = word_no_int h.slash _ e'
    go (lexeme.Int n) e' none' = none' n refl
    go (lexeme.Str s) e' none' = absurd (cc e')
    go (lexeme.Sign s) e' none' = sign_no_int s e'
    go (lexeme.Session s) e' none' = absurd (cc e')

-- a token of the kind of a string is one
pub str_held : (k : TokenKind) (t : Token) → IsHeld k t → k ≡ Str → ((s : Bor (List ℕ)) → t.lexeme ≡ lexeme.Str s → ⊥) → ⊥
str_held k t h e none = go t.lexeme (sym h.kind ∙ e) none
  where
    go : (l : Lexeme) → piece_kind h.slash (lexeme_of l) ≡ Str → ((s : Bor (List ℕ)) → l ≡ lexeme.Str s → ⊥) → ⊥
    go (lexeme.Word w) e' none' = word_no_str h.slash _ e'
    go (lexeme.Int n) e' none' = absurd (cc e')
    go (lexeme.Str s) e' none' = none' s refl
    go (lexeme.Sign s) e' none' = sign_no_str s e'
    go (lexeme.Session s) e' none' = absurd (cc e')
