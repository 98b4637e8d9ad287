-- The number that digits spell, digit by digit.
use Rattle.std.proofs.Common.{◌≡◌, ◌≤◌, ◌<◌, ℕ, ◌+◌, ◌*◌, ◌-◌, List, [], ◌∷◌, ◌++◌, refl, ap, ◌∙◌, arith, length, take, drop, take-append-drop, fold, get_or}
use Rattle.std.proofs.lemmas.List.{take_more}
use Rattle.std.proofs.Common.{◌^◌, true}
use Rattle.std.proofs.lemmas.Bool.Decides.{nat_tests}
use Rattle.sml_text.specs.Bytes.{is_digit}
use Rattle.sml_text.specs.Tokens.{digit_more, digits_value}

fold_append : (n : ℕ) (xs ys : List ℕ) → fold digit_more n (xs ++ ys) ≡ fold digit_more (fold digit_more n xs) ys
fold_append n [] ys = refl
fold_append n (x ∷ xs) ys = fold_append (digit_more n x) xs ys

fold_grows : (n : ℕ) (xs : List ℕ) → n ≤ fold digit_more n xs
fold_grows n [] = omega arith
fold_grows n (x ∷ xs) = let h = fold_grows (digit_more n x) xs in omega arith

-- more digits spell no less
pub digits_grow : (xs ys : List ℕ) → digits_value xs ≤ digits_value (xs ++ ys)
digits_grow xs ys = let h = fold_grows (digits_value xs) ys in let e = fold_append 0 xs ys in omega (arith, h, e)

pub value_head : (i : ℕ) (xs : List ℕ) → digits_value (take i xs) ≤ digits_value xs
value_head i xs = let h = digits_grow (take i xs) (drop i xs) in let e = ap digits_value (take-append-drop i xs) in omega (arith, h, e)

-- one digit more
pub value_more : (xs : List ℕ) (i : ℕ) → i < length xs → digits_value (take (i + 1) xs) ≡ digits_value (take i xs) * 10 + (get_or xs i 0 - 48)
value_more xs i h = ap digits_value (take_more xs i 0 h) ∙ fold_append 0 (take i xs) (get_or xs i 0 ∷ [])

-- a prefix of the digits spells too much, so they do
pub too_much : (xs : List ℕ) (i : ℕ) → i < length xs → 2 ^ 64 ≤ digits_value (take i xs) * 10 + (get_or xs i 0 - 48) → 2 ^ 64 ≤ digits_value xs
too_much xs i h big = let m = value_more xs i h in let l = value_head (i + 1) xs in omega (arith, big, m, l)

-- a digit is `0` or above
pub digit_least : (c : ℕ) → is_digit c ≡ true → 48 ≤ c
digit_least c h = grind (arith, nat_tests)
