-- The decimal text of a number, in digits.
use Rattle.std.proofs.Common.{◌≡◌, ◌<◌, ℕ, pos, negsuc, zero, suc, ◌^◌, ◌∷◌, length, refl, ap, sym, ◌∙◌, arith, true, fold}
use Rattle.std.specs.Prelude.{slice_index}
use Rattle.std.specs.Fmt.{decimal}
use Rattle.std.specs.Int.{IsInRange}
use Rattle.std.proofs.lemmas.Bool.Decides.{nat_tests}
use Rattle.std.proofs.lemmas.Str.Parse.{IsNumeralModel, IsDigitsTest, FoldsDigits, numerals_by_fold}
use Rattle.std.proofs.lemmas.Fmt.{digits_decimal, digits_value-decimal, decimal-digits_value, decimal_nonempty, decimal_digit, first_decimal}
use Rattle.sml_text.specs.Bytes.{is_digit}
use Rattle.sml_text.specs.Tokens.{Each, digit_more, digits_value, IsLong}
use Rattle.sml_text.specs.Laws.{SomeDecimal, OneDecimal, SomeIntText, OneIntText}

digit_range : (c : ℕ) → is_digit c ≡ true → IsInRange 48 57 c
digit_range c h = (grind (arith, nat_tests), grind (arith, nat_tests))

range_digit : (c : ℕ) → IsInRange 48 57 c → is_digit c ≡ true
range_digit c h = grind (arith, nat_tests)

digits : IsDigitsTest (Each is_digit)
digits = record { empty = tt; parts = λ c cs h. (digit_range c h.0, h.1); more = λ c cs r h. (range_digit c r, h) }

folds : FoldsDigits (λ n text. fold digit_more n text)
folds = record { empty = λ n. refl; more = λ n c cs r. refl }

model : IsNumeralModel (Each is_digit) digits_value
model = numerals_by_fold (Each is_digit) digits (λ n text. fold digit_more n text) folds

pub some_decimal : SomeDecimal
some_decimal n h = record {
  some = decimal_nonempty n h;
  digits = digits_decimal model n h;
  value = digits_value-decimal model n h;
  plain = plain n h;
}
  where
    plain : (n : ℕ) → n < 2 ^ 64 → slice_index (decimal n) 0 ≡ 48 → length (decimal n) ≡ 1
    plain zero h e = ap length (decimal_digit 0 (omega arith))
    plain (suc n) h e = let f = first_decimal (suc n) (omega arith) h in absurd (omega (arith, f, e))

pub one_decimal : OneDecimal
one_decimal n text h d =
    let v = d.value in
    ap decimal (sym v) ∙ decimal-digits_value model text d.digits d.some d.plain (omega (arith, v, h))

small : (n : ℕ) → IsLong (pos n) → n < 2 ^ 64
small n h = grind (arith, nat_tests)

small_below : (n : ℕ) → IsLong (negsuc n) → suc n < 2 ^ 64
small_below n h = grind (arith, nat_tests)

pub some_int_text : SomeIntText
some_int_text (pos n) h = some_decimal n (small n h)
some_int_text (negsuc n) h = (decimal (suc n), refl, some_decimal (suc n) (small_below n h))

pub one_int_text : OneIntText
one_int_text (pos n) text h d = one_decimal n text (small n h) d
one_int_text (negsuc n) text h d = ap (λ t. 45 ∷ t) (one_decimal (suc n) d.0 (small_below n h) d.2) ∙ sym d.1
