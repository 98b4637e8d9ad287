-- The SHA-1 of a text, as a log has it: 40 digits of base 16, with small letters.
use Rattle.std.specs.Prelude.{ℕ, ◌==◌, ◌&&◌, ◌||◌, Bool, List, length, nat_le}
use Rattle.std.specs.List.{list_all}
use Rattle.sml_text.specs.Bytes.{is_digit}
use Rattle.smi_log_front.specs.declared.sums.TheConstants.{SUM_DIGITS}

-- a digit of base 16, small if it is a letter
abbrev pub is_sum_digit : ℕ → Bool
is_sum_digit c = is_digit c || (nat_le 97 c && nat_le c 102)

-- whether a text may be a SHA-1
abbrev pub is_log_sum : List ℕ → Bool
is_log_sum text = length text == SUM_DIGITS && list_all is_sum_digit text
