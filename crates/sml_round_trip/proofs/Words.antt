-- Words, signs, ints and strings in front of a text.
use Rattle.std.proofs.Common.{◌≡◌, ◌≤◌, ℕ, ℤ, pos, negsuc, suc, Bool, true, false, List, [], ◌∷◌, ◌++◌, length, refl, ap, sym, subst, Some, arith, nat_le}
use Rattle.std.specs.List.{list_all}
use Rattle.std.proofs.lemmas.Bool.Decides.{nat_tests}
use Rattle.std.proofs.lemmas.Bool.{and_parts}
use Rattle.sml_text.specs.declared.source.Source.TheVariants.{Domain}
use Rattle.sml_text.specs.declared.source.Sign.{Sign as SignKind}
use Rattle.sml_text.specs.declared.source.Sign.TheVariants as sign
use Rattle.sml_text.specs.Bytes.{is_ascii, is_letter, is_digit, is_word_byte, is_word_text, is_word, is_string_byte, folded, sign_byte}
use Rattle.sml_text.specs.Tokens.{Word, Int, Str, Sign, Each, LexemeStands, word, int, string, sign as a_sign, IsLong, int_value, minus_bytes, negated}
use Rattle.sml_text.specs.Decimal.{IsDecimal, IsIntText, int_text}
use Rattle.sml_text.proofs.Decimals.{some_int_text}
use Rattle.sml_tree.specs.declared.token_kind.TokenKind.{TokenKind}
use Rattle.sml_tree.specs.declared.token_kind.TokenKind.TheVariants as kind
use Rattle.sml_tree.specs.Piece.{Piece, word_kind, sign_kind, is_slash}
use Rattle.sml_tree.specs.Form.{Bone, B, Form, needs, Mark, Part, Value}
use Rattle.sml_round_trip.specs.Writable.{IsWritableName}
use Rattle.sml_round_trip.proofs.Lexed.{each_append}
use Rattle.sml_round_trip.proofs.Says.{piece_at, Edge, Free, Say, say_token}
use Rattle.sml_text.specs.declared.limits.TheConstants.{LONGEST_NAME, LONGEST_STRING}

-- ---- bytes
pub all_each : (p : ℕ → Bool) (xs : List ℕ) → list_all p xs ≡ true → Each p xs
all_each p [] h = tt
all_each p (x ∷ xs) h = let q = and_parts (p x) (list_all p xs) h in (q.0, all_each p xs q.1)

pub each_other : (p q : ℕ → Bool) (xs : List ℕ) → ((x : ℕ) → p x ≡ true → q x ≡ true) → Each p xs → Each q xs
each_other p q [] f h = tt
each_other p q (x ∷ xs) f h = (f x h.0, each_other p q xs f h.1)

letter_ascii : (c : ℕ) → is_letter c ≡ true → is_ascii c ≡ true
letter_ascii c h = grind (arith, nat_tests)

word_ascii : (c : ℕ) → is_word_byte c ≡ true → is_ascii c ≡ true
word_ascii c h = grind (arith, nat_tests)

digit_ascii : (c : ℕ) → is_digit c ≡ true → is_ascii c ≡ true
digit_ascii c h = grind (arith, nat_tests)

string_ascii : (c : ℕ) → is_string_byte c ≡ true → is_ascii c ≡ true
string_ascii c h = grind (arith, nat_tests)

-- ---- words
word_stands : (bytes rest : List ℕ) → is_word bytes ≡ true → Edge rest → LexemeStands Domain bytes rest (Some (Word (folded bytes)))
word_stands [] rest h e = absurd (cc h)
word_stands (c ∷ body) rest h e =
    let p = and_parts (is_word_text (c ∷ body)) (nat_le (length (c ∷ body)) LONGEST_NAME) h in
    let q = and_parts (is_letter c) (list_all is_word_byte body) p.0 in
    let short : nat_le (length (c ∷ body)) LONGEST_NAME ≡ true = p.1 in
    let fits : length (c ∷ body) ≤ LONGEST_NAME = grind (arith, nat_tests) in
    word c body rest q.0 (all_each is_word_byte body q.1) e fits

word_bytes : (bytes : List ℕ) → is_word bytes ≡ true → Each is_ascii bytes
word_bytes [] h = tt
word_bytes (c ∷ body) h =
    let p = and_parts (is_word_text (c ∷ body)) (nat_le (length (c ∷ body)) LONGEST_NAME) h in
    let q = and_parts (is_letter c) (list_all is_word_byte body) p.0 in
    (letter_ascii c q.0, each_other is_word_byte is_ascii body word_ascii (all_each is_word_byte body q.1))

module _ {E : List ℕ → Type 0} {g : Part} {bones : List Bone} {mark : Mark} {f : Piece → Form (Value g) bones} {text : List ℕ} {v : Value g} where
  -- a reserved word, or a mark behind a slash
  pub say_word : {slash : Bool} (bytes : List ℕ) (k : TokenKind) → is_word bytes ≡ true → word_kind slash (folded bytes) ≡ k → Free k mark → ((rest : List ℕ) → E rest → Edge (text ++ rest))
      → ((at : ℕ) → f (piece_at k (Word (folded bytes)) at) ≡ f (piece_at k (Word (folded bytes)) 0)) → Say false E g bones (f (piece_at k (Word (folded bytes)) 0)) text v
      → Say slash E g (B k ∷ bones) (needs k mark f) (bytes ++ text) v
  say_word bytes k h is free clear blind x = say_token bytes (Word (folded bytes)) k (λ rest e. word_stands bytes (text ++ rest) h (clear rest e)) (word_bytes bytes h) is free blind x

  -- a name
  pub say_name : (name : List ℕ) → IsWritableName name → ((rest : List ℕ) → E rest → Edge (text ++ rest))
      → ((at : ℕ) → f (piece_at kind.Name (Word name) at) ≡ f (piece_at kind.Name (Word name) 0)) → Say false E g bones (f (piece_at kind.Name (Word name) 0)) text v
      → Say false E g (B kind.Name ∷ bones) (needs kind.Name mark f) (name ++ text) v
  say_name name h clear blind x =
      say_token name (Word name) kind.Name (λ rest e. subst (λ w. LexemeStands Domain name (text ++ rest) (Some (Word w))) h.upper (word_stands name (text ++ rest) h.word (clear rest e)))
      (word_bytes name h.word) h.free tt blind x

  -- a sign
  pub say_sign : {slash : Bool} (s : SignKind) → Free (sign_kind s) mark
      → ((at : ℕ) → f (piece_at (sign_kind s) (Sign s) at) ≡ f (piece_at (sign_kind s) (Sign s) 0)) → Say (is_slash (Sign s)) E g bones (f (piece_at (sign_kind s) (Sign s) 0)) text v
      → Say slash E g (B (sign_kind s) ∷ bones) (needs (sign_kind s) mark f) (sign_byte s ∷ text) v
  say_sign s free blind x = say_token (sign_byte s ∷ []) (Sign s) (sign_kind s) (λ rest e. a_sign s (text ++ rest)) (sign_ascii s, tt) refl free blind x
    where
      sign_ascii : (s : SignKind) → is_ascii (sign_byte s) ≡ true
      sign_ascii sign.Colon = refl
      sign_ascii sign.Comma = refl
      sign_ascii sign.Equals = refl
      sign_ascii sign.OpenBracket = refl
      sign_ascii sign.CloseBracket = refl
      sign_ascii sign.OpenBrace = refl
      sign_ascii sign.CloseBrace = refl
      sign_ascii sign.Slash = refl

  -- a string
  pub say_string : {slash : Bool} (bytes : List ℕ) → Each is_string_byte bytes → length bytes ≤ LONGEST_STRING
      → ((at : ℕ) → f (piece_at kind.Str (Str bytes) at) ≡ f (piece_at kind.Str (Str bytes) 0)) → Say false E g bones (f (piece_at kind.Str (Str bytes) 0)) text v
      → Say slash E g (B kind.Str ∷ bones) (needs kind.Str mark f) ((34 ∷ (bytes ++ 34 ∷ [])) ++ text) v
  say_string bytes each short blind x =
      say_token (34 ∷ (bytes ++ 34 ∷ [])) (Str bytes) kind.Str (λ rest e. string bytes (text ++ rest) each short)
      (refl, each_append is_ascii bytes (34 ∷ []) (each_other is_string_byte is_ascii bytes string_ascii each) (refl, tt)) refl tt blind x

-- ---- ints
digits_stand : (minus : Bool) (n : ℕ) (value : ℤ) (digits rest : List ℕ) → IsDecimal n digits → Edge rest → ((m : ℕ) → m ≡ n → int_value minus digits ≡ value) → IsLong value
    → LexemeStands Domain (minus_bytes minus ++ digits) rest (Some (Int value))
digits_stand minus n value [] rest d e is long = let s = d.some in absurd (omega (arith, s))
digits_stand minus n value (c ∷ digits) rest d e is long =
    let same : int_value minus (c ∷ digits) ≡ value = is n refl in
    let Q : ℤ → Type 0 = λ x. LexemeStands Domain (minus_bytes minus ++ (c ∷ digits)) rest (Some (Int x)) in
    subst Q same (int minus c digits rest d.digits.0 d.digits.1 e (subst IsLong (sym same) long))

int_stands : (n : ℤ) (text rest : List ℕ) → IsIntText n text → Edge rest → IsLong n → LexemeStands Domain text rest (Some (Int n))
int_stands (pos n) text rest d e long = digits_stand false n (pos n) text rest d e (λ m h. ap pos d.value) long
int_stands (negsuc n) text rest d e long =
    subst (λ t. LexemeStands Domain t rest (Some (Int (negsuc n)))) (sym d.1) (digits_stand true (suc n) (negsuc n) d.0 rest d.2 e (λ m h. ap negated d.2.value) long)

int_bytes : (n : ℤ) (text : List ℕ) → IsIntText n text → Each is_ascii text
int_bytes (pos n) text d = each_other is_digit is_ascii text digit_ascii d.digits
int_bytes (negsuc n) text d = subst (Each is_ascii) (sym d.1) (refl, each_other is_digit is_ascii d.0 digit_ascii d.2.digits)

-- an int
pub say_int : {slash : Bool} {E : List ℕ → Type 0} {g : Part} {bones : List Bone} {mark : Mark} {f : Piece → Form (Value g) bones} {text : List ℕ} {v : Value g}
    (n : ℤ) → IsLong n → ((rest : List ℕ) → E rest → Edge (text ++ rest))
    → ((at : ℕ) → f (piece_at kind.Int (Int n) at) ≡ f (piece_at kind.Int (Int n) 0)) → Say false E g bones (f (piece_at kind.Int (Int n) 0)) text v
    → Say slash E g (B kind.Int ∷ bones) (needs kind.Int mark f) (int_text n ++ text) v
say_int {text = text} n long clear blind x =
    say_token (int_text n) (Int n) kind.Int (λ rest e. int_stands n (int_text n) (text ++ rest) (some_int_text n long) (clear rest e) long) (int_bytes n (int_text n) (some_int_text n long)) refl tt blind x
