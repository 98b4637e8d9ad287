-- What is in listed functions.
use Rattle.std.proofs.Common.{◌≡◌, ◌≢◌, ◌<◌, ℕ, zero, suc, ◌∷◌, length, refl, ap, ◌∙◌, arith}
use Rattle.std.specs.Prelude.{slice_set}
use Rattle.std.specs.List.{slice_index_or}
use Rattle.smi_core.specs.Listed.{listed_below}

pub length-listed : {A : Type 0} → (n : ℕ) (f : ℕ → A) → length (listed_below n f) ≡ n
length-listed zero f = refl
length-listed (suc n) f = ap suc (length-listed n (λ i. f (suc i)))

-- at a number below, the value there
pub listed_at : {A : Type 0} → (n : ℕ) (f : ℕ → A) (o : ℕ) (a : A) → o < n → slice_index_or (listed_below n f) o a ≡ f o
listed_at zero f o a lt = absurd (omega (arith, lt))
listed_at (suc n) f zero a lt = refl
listed_at (suc n) f (suc o) a lt = listed_at n (λ i. f (suc i)) o a (omega (arith, lt))

-- equal values are listed equally
pub listed_same : {A : Type 0} → (n : ℕ) (f g : ℕ → A) → ((o : ℕ) → o < n → f o ≡ g o) → listed_below n f ≡ listed_below n g
listed_same zero f g h = refl
listed_same (suc n) f g h =
    ap (λ x. x ∷ listed_below n (λ i. f (suc i))) (h 0 (omega arith))
    ∙ ap (λ xs. g 0 ∷ xs) (listed_same n (λ i. f (suc i)) (λ i. g (suc i)) (λ o lt. h (suc o) (omega (arith, lt))))

-- a write of one value
pub listed_set : {A : Type 0} → (n : ℕ) (f g : ℕ → A) (o : ℕ) (y : A) → o < n → g o ≡ y → ((x : ℕ) → x < n → x ≢ o → g x ≡ f x) → listed_below n g ≡ slice_set (listed_below n f) o y
listed_set zero f g o y lt here others = absurd (omega (arith, lt))
listed_set (suc n) f g zero y lt here others =
    ap (λ z. z ∷ listed_below n (λ i. g (suc i))) here
    ∙ ap (λ xs. y ∷ xs) (listed_same n (λ i. g (suc i)) (λ i. f (suc i)) (λ x below. others (suc x) (omega (arith, below)) (λ e. absurd (omega (arith, e)))))
listed_set (suc n) f g (suc o) y lt here others =
    ap (λ z. z ∷ listed_below n (λ i. g (suc i))) (others 0 (omega arith) (λ e. absurd (omega (arith, e))))
    ∙ ap (λ xs. f 0 ∷ xs) (listed_set n (λ i. f (suc i)) (λ i. g (suc i)) o y (omega (arith, lt)) here (λ x below apart. others (suc x) (omega (arith, below)) (λ e. apart (omega (arith, e)))))
