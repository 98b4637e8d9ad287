-- Sums over the first numbers.
use Rattle.std.proofs.Common.{◌≡◌, ◌<◌, ◌≤◌, ◌+◌, ℕ, zero, suc, ◌==◌, Bool, true, false, refl, ap, arith}
use Rattle.std.proofs.lemmas.Bool.{eqb-true, eqb-false, ne_eqb}

-- the sum of a function over the first numbers
abbrev pub total : (ℕ → ℕ) → ℕ → ℕ
total f zero = 0
total f (suc n) = total f n + f n

-- one function is another, except for one number
abbrev pub AgreeBut : ℕ → (ℕ → ℕ) → (ℕ → ℕ) → Type 0
AgreeBut o f g = (y : ℕ) → (y == o) ≡ false → g y ≡ f y

total_same : (f g : ℕ → ℕ) (o n : ℕ) → n ≤ o → AgreeBut o f g → total g n ≡ total f n
total_same f g o zero h same = refl
total_same f g o (suc n) h same =
    let t = total_same f g o n (omega arith) same in
    let e : g n ≡ f n = same n (ne_eqb n o (λ (is : n ≡ o). omega arith)) in
    omega (arith, t, e)

-- then so do their sums, except for it
pub total_at : (f g : ℕ → ℕ) (o n : ℕ) → o < n → AgreeBut o f g → total g n + f o ≡ total f n + g o
total_at f g o zero h same = absurd (omega (arith, h))
total_at f g o (suc n) h same = go (λ within. total_at f g o n within same) (n == o) refl
  where
    go : (o < n → total g n + f o ≡ total f n + g o) → (b : Bool) → (n == o) ≡ b
        → total g (suc n) + f o ≡ total f (suc n) + g o
    go before true e =
        let is : n ≡ o = eqb-true n o e in
        let t = total_same f g o n (omega arith) same in
        let a = ap f is in
        let b = ap g is in
        omega (arith, t, a, b)
    go before false e =
        let other = eqb-false n o e in
        let t = before (omega (arith, other, h)) in
        let s : g n ≡ f n = same n e in
        omega (arith, t, s)

pub total_none : (f : ℕ → ℕ) (n : ℕ) → ((y : ℕ) → f y ≡ 0) → total f n ≡ 0
total_none f zero none = refl
total_none f (suc n) none =
    let t = total_none f n none in
    let e = none n in
    omega (arith, t, e)
