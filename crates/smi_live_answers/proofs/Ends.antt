-- The ends of texts.
use Rattle.std.proofs.Common.{◌≡◌, ◌≤◌, ◌∙◌, sym, ap, refl, ℕ, suc, ◌-◌, ◌<◌, ◌&&◌, Bool, true, false, cond, List, [], ◌∷◌, ◌++◌, length, take, drop, get_or, arith}
use Rattle.std.specs.List.{list_all}
use Rattle.std.proofs.Math.Seq.{take-suc}
use Rattle.smi_live_answers.specs.EndWords.{body_of, comment_of, ends_off}

-- ---- bytes at the end

all_more : (p : ℕ → Bool) (xs : List ℕ) (c : ℕ) → p c ≡ true → list_all p (xs ++ c ∷ []) ≡ list_all p xs
all_more p [] c h = rw h refl
all_more p (x ∷ xs) c h = ap (λ b. p x && b) (all_more p xs c h)

all_less : (p : ℕ → Bool) (xs : List ℕ) (c : ℕ) → p c ≡ false → list_all p (xs ++ c ∷ []) ≡ false
all_less p [] c h = rw h refl
all_less p (x ∷ xs) c h = ap (λ b. p x && b) (all_less p xs c h) ∙ and_false (p x)
  where
    and_false : (b : Bool) → b && false ≡ false
    and_false true = refl
    and_false false = refl

-- one at the end that passes is off
ends_more : (p : ℕ → Bool) (xs : List ℕ) (c : ℕ) → p c ≡ true → ends_off p (xs ++ c ∷ []) ≡ ends_off p xs
ends_more p [] c h = rw h refl
ends_more p (x ∷ xs) c h =
    ap (λ b. cond b [] (x ∷ ends_off p (xs ++ c ∷ []))) (all_more p (x ∷ xs) c h)
    ∙ ap (λ l. cond (list_all p (x ∷ xs)) [] (x ∷ l)) (ends_more p xs c h)

-- and before one that does not pass all stays
ends_stay : (p : ℕ → Bool) (xs : List ℕ) (c : ℕ) → p c ≡ false → ends_off p (xs ++ c ∷ []) ≡ xs ++ c ∷ []
ends_stay p [] c h = rw h refl
ends_stay p (x ∷ xs) c h =
    ap (λ b. cond b [] (x ∷ ends_off p (xs ++ c ∷ []))) (all_less p (x ∷ xs) c h)
    ∙ ap (λ l. x ∷ l) (ends_stay p xs c h)

last_of : (text : List ℕ) (end : ℕ) → 0 < end → end ≤ length text → take end text ≡ take (end - 1) text ++ get_or text (end - 1) 0 ∷ []
last_of text end some within =
    let e : suc (end - 1) ≡ end = omega (arith, some) in
    ap (λ n. take n text) (sym e) ∙ take-suc text (end - 1) 0 (omega (arith, some, within))

take_all : (text : List ℕ) → take (length text) text ≡ text
take_all [] = refl
take_all (b ∷ bs) = ap (λ l. b ∷ l) (take_all bs)

-- the whole of a text is up to its end
pub ends_whole : (p : ℕ → Bool) (text : List ℕ) → ends_off p text ≡ ends_off p (take (length text) text)
ends_whole p text = ap (ends_off p) (sym (take_all text))

-- a byte at the end that passes
pub ends_before : (p : ℕ → Bool) (text : List ℕ) (end : ℕ) → 0 < end → end ≤ length text → p (get_or text (end - 1) 0) ≡ true → ends_off p text ≡ ends_off p (take end text) → ends_off p text ≡ ends_off p (take (end - 1) text)
ends_before p text end some within passes e =
    e ∙ ap (ends_off p) (last_of text end some within) ∙ ends_more p (take (end - 1) text) (get_or text (end - 1) 0) passes

-- the place of one that does not
pub ends_here : (p : ℕ → Bool) (text : List ℕ) (end : ℕ) → 0 < end → end ≤ length text → p (get_or text (end - 1) 0) ≡ false → ends_off p text ≡ ends_off p (take end text) → take end text ≡ ends_off p text
ends_here p text end some within fails e =
    last_of text end some within ∙ sym (ends_stay p (take (end - 1) text) (get_or text (end - 1) 0) fails) ∙ ap (ends_off p) (sym (last_of text end some within)) ∙ sym e

-- ---- the comment

-- what was passed before a place has no comment
pub record IsBodyTo (line : List ℕ) (n : ℕ) : Type 0 where
  pub within : n ≤ length line
  pub body : take n line ++ body_of (drop n line) ≡ body_of line
  pub comment : comment_of (drop n line) ≡ comment_of line
