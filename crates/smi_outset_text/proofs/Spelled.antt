-- Values, and their texts.
use Rattle.std.proofs.Common.{◌≡◌, ◌≢◌, ◌∙◌, sym, ap, refl, subst, ℕ, ℤ, pos, negsuc, zero, suc, ◌<◌, ◌^◌, ◌==◌, ◌||◌, Bool, true, List, [], ◌∷◌, ◌++◌, None, Result, Ok, Err, IsUtf8, IsAscii, to_z-of_z, arith}
use Rattle.std.proofs.lemmas.Bool.Decides.{nat_tests}
use Rattle.std.proofs.lemmas.Fmt.{parse-signed_decimal}
use Rattle.std.proofs.lemmas.List.{append_cancel_right}
use Rattle.std.proofs.lemmas.Str.{IsUtf8-from_ascii}
use Rattle.std.specs.Prelude.{codes, FitsSigned}
use Rattle.std.specs.Str.Parse.{ParsesSigned}
use mir.Syntax.{w64}
use mir.Val.{of_z, to_z}
use lib.Signed.{mag}
use Rattle.sml_text.specs.Bytes.{is_digit, is_string_byte, no_line_feed}
use Rattle.sml_text.specs.Decimal.{int_text}
use Rattle.sml_text.specs.Tokens.{Each, IsLong, digits_value}
use Rattle.sml_tree.specs.declared.file.Kind.TheVariants.{Int as IntKind, Str as StrKind}
use Rattle.sml_domain.specs.declared.value.Value.{Value}
use Rattle.sml_domain.specs.declared.value.Value.TheVariants.{Int, Text}
use Rattle.sml_domain.specs.Texts.{IsText}
use Rattle.smi_journal.specs.CallText.{value_text}
use Rattle.smi_journal.specs.HasText.{ValueIsHeld}
use Rattle.sml_text.proofs.Decimals.{some_int_text}
use Rattle.smi_outset_text.specs.Reading.{ReadsValue, quoted}

abbrev rest_of : List ℕ → List ℕ
rest_of [] = []
rest_of (c ∷ cs) = cs

-- a digit or a minus
abbrev pub is_int_byte : ℕ → Bool
is_int_byte c = is_digit c || (c == 45)

of_digit : (c : ℕ) → is_digit c ≡ true → is_int_byte c ≡ true
of_digit c h = ap (λ b. b || (c == 45)) h

pub each_more : (P Q : ℕ → Bool) (w : List ℕ) → ((c : ℕ) → P c ≡ true → Q c ≡ true) → Each P w → Each Q w
each_more P Q [] f h = tt
each_more P Q (c ∷ w) f h = (f c h.0, each_more P Q w f h.1)

pub each_append : (P : ℕ → Bool) (xs ys : List ℕ) → Each P xs → Each P ys → Each P (xs ++ ys)
each_append P [] ys h g = g
each_append P (x ∷ xs) ys h g = (h.0, each_append P xs ys h.1 g)

-- the bytes of the text of an int
int_bytes : (n : ℤ) → IsLong n → Each is_int_byte (int_text n)
int_bytes (pos n) h = each_more is_digit is_int_byte (int_text (pos n)) of_digit (some_int_text (pos n) h).digits
int_bytes (negsuc n) h =
    let d = some_int_text (negsuc n) h in
    subst (Each is_int_byte) (sym d.1) (refl, each_more is_digit is_int_byte d.0 of_digit d.2.digits)

-- ints with one text are one
digit_no_minus : (c : ℕ) → is_digit c ≡ true → c ≡ 45 → ⊥
digit_no_minus c h e = grind (arith, nat_tests, h, e)

digits_no_minus : (text digits : List ℕ) → Each is_digit text → text ≡ 45 ∷ digits → ⊥
digits_no_minus [] digits h e = cc e
digits_no_minus (c ∷ cs) digits h e = let f : c ≡ 45 = cc e in digit_no_minus c h.0 f

pub one_int : (n m : ℤ) → IsLong n → IsLong m → int_text n ≡ int_text m → n ≡ m
one_int (pos n) (pos m) hn hm e = ap pos (sym (some_int_text (pos n) hn).value ∙ ap digits_value e ∙ (some_int_text (pos m) hm).value)
one_int (pos n) (negsuc m) hn hm e =
    let d = some_int_text (negsuc m) hm in absurd (digits_no_minus (int_text (pos n)) d.0 (some_int_text (pos n) hn).digits (e ∙ d.1))
one_int (negsuc n) (pos m) hn hm e =
    let d = some_int_text (negsuc n) hn in absurd (digits_no_minus (int_text (pos m)) d.0 (some_int_text (pos m) hm).digits (sym e ∙ d.1))
one_int (negsuc n) (negsuc m) hn hm e =
    let d = some_int_text (negsuc n) hn in
    let b = some_int_text (negsuc m) hm in
    let same : d.0 ≡ b.0 = ap rest_of (sym d.1 ∙ e ∙ b.1) in
    let value : suc n ≡ suc m = sym d.2.value ∙ ap digits_value same ∙ b.2.value in
    let is : n ≡ m = omega (arith, value) in
    ap negsuc is

-- the text of an int is of ASCII
ascii_at : (bs : List ℕ) → Each is_int_byte bs → IsAscii bs
ascii_at [] h i = omega arith
ascii_at (c ∷ cs) h zero = let b = h.0 in grind (arith, nat_tests, b)
ascii_at (c ∷ cs) h (suc i) = ascii_at cs h.1 i

pub no_utf8 : (text : List ℕ) → (IsUtf8 text → ⊥) → (n : ℤ) → IsLong n → text ≢ int_text n
no_utf8 text h n long e = h (IsUtf8-from_ascii text (ascii_at text (subst (Each is_int_byte) (sym e) (int_bytes n long))))

-- what is not parsed is not the text of an int
small : (n : ℤ) → IsLong n → mag n < 2 ^ 63
small (pos n) h = grind (arith, nat_tests)
small (negsuc n) h = grind (arith, nat_tests)

pub parsed : {E : Type 0} (text : List ℕ) (r : Result ℤ E) → ParsesSigned w64 10 text r → (n : ℤ) → IsLong n → text ≡ int_text n → r ≡ Ok n
parsed text r h n long e = parse-signed_decimal w64 n text r (record { sfits = small n long }) (small n long) e h

pub unparsed : {E : Type 0} (text : List ℕ) (e : E) → ParsesSigned w64 10 text (Err e) → (n : ℤ) → IsLong n → text ≢ int_text n
unparsed text e h n long is = let f : Err e ≡ Ok n = parsed text (Err e) h n long is in cc f

pub other_int : {E : Type 0} (text : List ℕ) (r : Result ℤ E) (k : ℤ) → r ≡ Ok k → ParsesSigned w64 10 text r
    → text ≢ int_text (to_z w64 (of_z w64 k)) → (n : ℤ) → IsLong n → text ≢ int_text n
other_int {E} text r k e h not n long is =
    let f : ◌≡◌ {A = Result ℤ E} (Ok k) (Ok n) = sym e ∙ parsed text r h n long is in
    let same : k ≡ n = cc f in
    let fits : FitsSigned w64 k = subst (FitsSigned w64) (sym same) (record { sfits = small n long }) in
    not (is ∙ ap int_text (sym same) ∙ ap int_text (sym (to_z-of_z fits)))

-- what is between quotes
pub not_quoted : (text : List ℕ) → ((more : List ℕ) → text ≢ codes "\"" ++ more) → (bytes : List ℕ) → text ≢ quoted bytes
not_quoted text h bytes e = h (bytes ++ 34 ∷ []) e

pub not_closed : (text more : List ℕ) → text ≡ codes "\"" ++ more → ((bytes : List ℕ) → more ≢ bytes ++ codes "\"") → (bytes : List ℕ) → text ≢ quoted bytes
not_closed text more e h bytes f = h bytes (ap rest_of (sym e ∙ f))

pub is_quoted : (text more bytes : List ℕ) → text ≡ codes "\"" ++ more → more ≡ bytes ++ codes "\"" → text ≡ quoted bytes
is_quoted text more bytes e f = e ∙ ap (λ l. 34 ∷ l) f

pub same_quoted : (x y : List ℕ) → quoted x ≡ quoted y → x ≡ y
same_quoted x y e = append_cancel_right x y (34 ∷ []) (ap rest_of e)

-- a text that is no string is no value of the kind
pub no_string : (text : List ℕ) → ((bytes : List ℕ) → IsText bytes → text ≢ quoted bytes) → ReadsValue StrKind text None
no_string text h (Int n) kind held e = cc kind
no_string text h (Text bytes) kind held e = h bytes held e

pub no_int : (text : List ℕ) → ((n : ℤ) → IsLong n → text ≢ int_text n) → ReadsValue IntKind text None
no_int text h (Int n) kind held e = h n held e
no_int text h (Text bytes) kind held e = cc kind

-- no value has a line feed in its text
int_line : (c : ℕ) → is_int_byte c ≡ true → no_line_feed c ≡ true
int_line c h = grind (arith, nat_tests)

string_line : (c : ℕ) → is_string_byte c ≡ true → no_line_feed c ≡ true
string_line c h = grind (arith, nat_tests)

pub value_line : (v : Value) → ValueIsHeld v → Each no_line_feed (value_text v)
value_line (Int n) h = each_more is_int_byte no_line_feed (int_text n) int_line (int_bytes n h)
value_line (Text bytes) h =
    (refl, each_append no_line_feed bytes (34 ∷ []) (each_more is_string_byte no_line_feed bytes string_line h.fits) (refl, tt))

-- values with one text are one
pub one_value : (v w : Value) → ValueIsHeld v → ValueIsHeld w → value_text v ≡ value_text w → v ≡ w
one_value (Int n) (Int m) hv hw e = ap Int (one_int n m hv hw e)
one_value (Text x) (Text y) hv hw e = ap Text (same_quoted x y e)
one_value (Int n) (Text y) hv hw e = absurd (no_quote (int_text n) (y ++ 34 ∷ []) (int_bytes n hv) e)
  where
    no_quote : (text more : List ℕ) → Each is_int_byte text → text ≡ 34 ∷ more → ⊥
    no_quote [] more h e = cc e
    no_quote (c ∷ cs) more h e = let f : c ≡ 34 = cc e in let b = h.0 in grind (arith, nat_tests, b, f)
one_value (Text x) (Int m) hv hw e = absurd (no_quote (int_text m) (x ++ 34 ∷ []) (int_bytes m hw) (sym e))
  where
    no_quote : (text more : List ℕ) → Each is_int_byte text → text ≡ 34 ∷ more → ⊥
    no_quote [] more h e = cc e
    no_quote (c ∷ cs) more h e = let f : c ≡ 34 = cc e in let b = h.0 in grind (arith, nat_tests, b, f)
