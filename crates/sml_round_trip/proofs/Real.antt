-- What a token of a text is.
use Rattle.std.proofs.Common.{◌≡◌, ◌≤◌, ℕ, ◌+◌, Bool, true, false, List, [], ◌∷◌, ◌++◌, length, refl, ap, sym, ◌∙◌, Option, Some, None, arith, nat_le, nat_eq, if◌then◌else◌}
use Rattle.std.specs.List.{AllByRecursion, list_all}
use Rattle.std.specs.Cmp.Lexicographic.{pointwise}
use Rattle.std.proofs.lemmas.Bool.Decides.{nat_tests}
use Rattle.std.proofs.lemmas.Bool.{and_from, and_parts}
use Rattle.std.proofs.lemmas.List.{length-map}
use Rattle.std.specs.Char.{to_ascii_uppercase}
use Rattle.sml_text.specs.declared.source.Source.TheVariants.{Domain}
use Rattle.sml_text.specs.declared.source.Sign.{Sign as SignKind}
use Rattle.sml_text.specs.declared.source.Sign.TheVariants as sign
use Rattle.sml_text.specs.Bytes.{is_letter, is_word, is_word_byte, is_string_byte, folded}
use Rattle.sml_text.specs.Tokens.{Lexeme, Word, Int, Str, Sign, Session, Token, Each, LexemeStands, blank, comment, word, int, string, sign as a_sign, session, IsLong, TokensAt, ends, goes_on, with_token}
use Rattle.sml_tree.specs.declared.token_kind.TokenKind.{TokenKind}
use Rattle.sml_tree.specs.declared.token_kind.TokenKind.TheVariants as kind
use Rattle.sml_tree.specs.Piece.{Piece, pieces, piece_kind, is_slash, Reserved, reserved, mark_words, kind_in, word_kind, sign_kind, word_of, int_of, bytes_of}
use Rattle.sml_tree.proofs.Upper.{upper-upper}
use Rattle.sml_round_trip.specs.Writable.{IsWritableName}
use Rattle.sml_text.specs.declared.limits.TheConstants.{LONGEST_NAME, LONGEST_STRING}

-- what a token holds
abbrev pub IsGood : Lexeme → Type 0
IsGood (Word w) = (is_word w ≡ true) × (folded w ≡ w)
IsGood (Int n) = IsLong n
IsGood (Str bytes) = Each is_string_byte bytes × (length bytes ≤ LONGEST_STRING)
IsGood (Sign s) = Unit {0}
IsGood (Session k) = Unit {0}

abbrev IfGood : Option Lexeme → Type 0
IfGood None = Unit {0}
IfGood (Some l) = IsGood l

-- a token of a text, behind a slash or not
pub record IsReal (t : Piece) : Type 0 where
  pub slash : Bool
  pub kind : t.kind ≡ piece_kind slash t.lexeme
  pub good : IsGood t.lexeme

letter_upper : (c : ℕ) → is_letter c ≡ true → is_letter (to_ascii_uppercase c) ≡ true
letter_upper c h = grind (arith, nat_tests)

byte_upper : (c : ℕ) → is_word_byte c ≡ true → is_word_byte (to_ascii_uppercase c) ≡ true
byte_upper c h = grind (arith, nat_tests)

all_upper : (xs : List ℕ) → Each is_word_byte xs → list_all is_word_byte (folded xs) ≡ true
all_upper [] h = refl
all_upper (x ∷ xs) h = rw (byte_upper x h.0, all_upper xs h.1) refl

-- a folded word is a word
word_upper : (c : ℕ) (body : List ℕ) → is_letter c ≡ true → Each is_word_byte body → length (c ∷ body) ≤ LONGEST_NAME → is_word (folded (c ∷ body)) ≡ true
word_upper c body letter each short =
    let l : length (folded (c ∷ body)) ≡ length (c ∷ body) = length-map (c ∷ body) to_ascii_uppercase in
    let fits : nat_le (length (c ∷ body)) LONGEST_NAME ≡ true = grind (arith, nat_tests) in
    and_from _ _ (and_from _ _ (letter_upper c letter) (all_upper body each)) (ap (λ n. nat_le n LONGEST_NAME) l ∙ fits)

stands_good : (bytes rest : List ℕ) (what : Option Lexeme) → LexemeStands Domain bytes rest what → IfGood what
stands_good bytes rest what (blank c _ h) = tt
stands_good bytes rest what (comment body _ each over) = tt
stands_good bytes rest what (word c body _ letter each over short) = (word_upper c body letter each short, upper-upper (c ∷ body))
stands_good bytes rest what (int minus c digits _ digit each over long) = long
stands_good bytes rest what (string body _ each short) = (each, short)
stands_good bytes rest what (a_sign s _) = tt
stands_good bytes rest what (session k _ line least most) = tt

pub all_real : (slash : Bool) (at : ℕ) (text : List ℕ) (ts : List Token) → TokensAt Domain at text ts → AllByRecursion IsReal (pieces slash ts)
all_real slash at text ts (ends _) = tt
all_real slash at text ts (goes_on _ bytes rest what us s more) = go what (stands_good bytes rest what s) (λ b. all_real b (at + length bytes) rest us more)
  where
    go : (what : Option Lexeme) → IfGood what → ((b : Bool) → AllByRecursion IsReal (pieces b us)) → AllByRecursion IsReal (pieces slash (with_token at what us))
    go None h next = next slash
    go (Some l) h next = (record { slash = slash; kind = refl; good = h }, next (is_slash l))

-- ---- names
dropped : (row : Reserved) (rows : List Reserved) (w : List ℕ) → (row.kind ≡ kind.Name → ⊥) → kind_in (row ∷ rows) w ≡ kind.Name → kind_in rows w ≡ kind.Name
dropped row rows w other e = go (pointwise nat_eq w row.word) e
  where
    go : (b : Bool) → (if b then row.kind else kind_in rows w) ≡ kind.Name → kind_in rows w ≡ kind.Name
    go true h = absurd (other h)
    go false h = h

all_dropped : (front rows : List Reserved) (w : List ℕ) → AllByRecursion (λ (r : Reserved). r.kind ≡ kind.Name → ⊥) front → kind_in (front ++ rows) w ≡ kind.Name → kind_in rows w ≡ kind.Name
all_dropped [] rows w others e = e
all_dropped (row ∷ front) rows w others e = all_dropped front rows w others.1 (dropped row (front ++ rows) w others.0 e)

free_name : (slash : Bool) (w : List ℕ) → word_kind slash w ≡ kind.Name → word_kind false w ≡ kind.Name
free_name false w e = e
free_name true w e = all_dropped mark_words reserved w (λ h. absurd (cc h), (λ h. absurd (cc h), (λ h. absurd (cc h), tt))) e

sign_no_name : (s : SignKind) → sign_kind s ≡ kind.Name → ⊥
sign_no_name sign.Colon e = absurd (cc e)
sign_no_name sign.Comma e = absurd (cc e)
sign_no_name sign.Equals e = absurd (cc e)
sign_no_name sign.OpenBracket e = absurd (cc e)
sign_no_name sign.CloseBracket e = absurd (cc e)
sign_no_name sign.OpenBrace e = absurd (cc e)
sign_no_name sign.CloseBrace e = absurd (cc e)
sign_no_name sign.Slash e = absurd (cc e)

name_of : (l : Lexeme) (slash : Bool) → piece_kind slash l ≡ kind.Name → IsGood l → IsWritableName (word_of l)
name_of (Word w) slash e h = record { word = h.0; upper = h.1; free = free_name slash w e }
name_of (Int n) slash e h = absurd (cc e)
name_of (Str bytes) slash e h = absurd (cc e)
name_of (Sign s) slash e h = absurd (sign_no_name s e)
name_of (Session k) slash e h = absurd (cc e)

-- a token that is a name
pub name_real : (t : Piece) → t.kind ≡ kind.Name → IsReal t → IsWritableName (word_of t.lexeme)
name_real t e r = name_of t.lexeme r.slash (sym r.kind ∙ e) r.good

-- ---- ints and strings
-- neither an int nor a string
abbrev is_spelled : TokenKind → Bool
is_spelled kind.Int = false
is_spelled kind.Str = false
is_spelled k = true

kinds_spelled : (rows : List Reserved) (w : List ℕ) → list_all (λ (r : Reserved). is_spelled r.kind) rows ≡ true → is_spelled (kind_in rows w) ≡ true
kinds_spelled [] w h = refl
kinds_spelled (row ∷ rows) w h = go (pointwise nat_eq w row.word) (and_parts (is_spelled row.kind) (list_all (λ (r : Reserved). is_spelled r.kind) rows) h).0 (kinds_spelled rows w (and_parts (is_spelled row.kind) (list_all (λ (r : Reserved). is_spelled r.kind) rows) h).1)
  where
    go : (b : Bool) → is_spelled row.kind ≡ true → is_spelled (kind_in rows w) ≡ true → is_spelled (if b then row.kind else kind_in rows w) ≡ true
    go true x y = x
    go false x y = y

word_spelled : (slash : Bool) (w : List ℕ) → is_spelled (word_kind slash w) ≡ true
word_spelled true w = kinds_spelled (mark_words ++ reserved) w refl
word_spelled false w = kinds_spelled reserved w refl

sign_spelled : (s : SignKind) → is_spelled (sign_kind s) ≡ true
sign_spelled sign.Colon = refl
sign_spelled sign.Comma = refl
sign_spelled sign.Equals = refl
sign_spelled sign.OpenBracket = refl
sign_spelled sign.CloseBracket = refl
sign_spelled sign.OpenBrace = refl
sign_spelled sign.CloseBrace = refl
sign_spelled sign.Slash = refl

not_spelled : (k l : TokenKind) → is_spelled k ≡ true → k ≡ l → is_spelled l ≡ false → ⊥
not_spelled k l h e g = absurd (true_false (sym h ∙ ap is_spelled e ∙ g))
  where
    true_false : true ≡ false → ⊥
    true_false x = absurd (cc x)

int_of_kind : (l : Lexeme) (slash : Bool) → piece_kind slash l ≡ kind.Int → IsGood l → IsLong (int_of l)
int_of_kind (Word w) slash e h = absurd (not_spelled _ _ (word_spelled slash w) e refl)
int_of_kind (Int n) slash e h = h
int_of_kind (Str bytes) slash e h = absurd (cc e)
int_of_kind (Sign s) slash e h = absurd (not_spelled _ _ (sign_spelled s) e refl)
int_of_kind (Session k) slash e h = absurd (cc e)

bytes_of_kind : (l : Lexeme) (slash : Bool) → piece_kind slash l ≡ kind.Str → IsGood l → Each is_string_byte (bytes_of l) × (length (bytes_of l) ≤ LONGEST_STRING)
bytes_of_kind (Word w) slash e h = absurd (not_spelled _ _ (word_spelled slash w) e refl)
bytes_of_kind (Int n) slash e h = absurd (cc e)
bytes_of_kind (Str bytes) slash e h = h
bytes_of_kind (Sign s) slash e h = absurd (not_spelled _ _ (sign_spelled s) e refl)
bytes_of_kind (Session k) slash e h = absurd (cc e)

-- a token that is an int
pub int_real : (t : Piece) → t.kind ≡ kind.Int → IsReal t → IsLong (int_of t.lexeme)
int_real t e r = int_of_kind t.lexeme r.slash (sym r.kind ∙ e) r.good

-- a token that is a string
pub bytes_real : (t : Piece) → t.kind ≡ kind.Str → IsReal t → Each is_string_byte (bytes_of t.lexeme) × (length (bytes_of t.lexeme) ≤ LONGEST_STRING)
bytes_real t e r = bytes_of_kind t.lexeme r.slash (sym r.kind ∙ e) r.good
