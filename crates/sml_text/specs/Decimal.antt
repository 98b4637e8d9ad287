-- The decimal text of a number.
use Rattle.std.specs.Prelude.{◌≡◌, ◌<◌, ℕ, ℤ, pos, negsuc, suc, List, ◌∷◌, length, slice_index}
use Rattle.std.specs.Fmt.{decimal, signed_decimal}
use Rattle.sml_text.specs.Bytes.{is_digit}
use Rattle.sml_text.specs.Tokens.{Each, digits_value}

-- digits that spell the number, without a zero in front unless it stands alone
pub record IsDecimal (n : ℕ) (text : List ℕ) : Type 0 where
  pub some : 0 < length text
  pub digits : Each is_digit text
  pub value : digits_value text ≡ n
  pub plain : slice_index text 0 ≡ 48 → length text ≡ 1

-- the same, behind a minus where the number is below zero
abbrev pub IsIntText : ℤ → List ℕ → Type 0
IsIntText (pos n) text = IsDecimal n text
IsIntText (negsuc n) text = (digits : List ℕ) × (text ≡ 45 ∷ digits) × IsDecimal (suc n) digits

-- the decimal text of a number
abbrev pub decimal_text : ℕ → List ℕ
decimal_text n = decimal n

-- the decimal text of an int
abbrev pub int_text : ℤ → List ℕ
int_text n = signed_decimal n
