-- Words and names: a name is a word in upper case.
use Rattle.std.specs.Prelude.{◌≡◌, ℕ, ◌-◌, ◌≤◌, Bool, false, ◌&&◌, ◌||◌, nat_le, ◌==◌, List, [], ◌∷◌, length, take, drop, map, replicate, IsTrue}
use Rattle.std.specs.List.{list_all}
use Rattle.std.specs.Char.{is_ascii_alphabetic, is_ascii_digit, to_ascii_uppercase}
use Rattle.sml_text.specs.declared.limits.TheConstants.{LONGEST_NAME}

-- a letter, a digit or `_`
abbrev pub is_name_byte : ℕ → Bool
is_name_byte b = is_ascii_alphabetic b || is_ascii_digit b || (b == 95)

-- a letter, and then letters, digits and `_`
abbrev pub is_name_text : List ℕ → Bool
is_name_text [] = false
is_name_text (b ∷ bs) = is_ascii_alphabetic b && list_all is_name_byte bs

-- a word, no longer than it may be
abbrev pub is_name_word : List ℕ → Bool
is_name_word bs = is_name_text bs && nat_le (length bs) LONGEST_NAME

-- in upper case
abbrev pub upper : List ℕ → List ℕ
upper bs = map to_ascii_uppercase bs

-- the first `len` bytes are a word in upper case, and the others are 0
pub record HasName (bytes : List ℕ) (len : ℕ) : Type 0 where
  pub fits : len ≤ LONGEST_NAME
  pub filled : length bytes ≡ LONGEST_NAME
  pub padded : drop len bytes ≡ replicate (LONGEST_NAME - len) 0
  pub word : IsTrue (is_name_word (take len bytes))
  pub upper_case : upper (take len bytes) ≡ take len bytes
