-- Lists with an element for each number below one.
use Rattle.std.specs.Prelude.{ℕ, zero, suc, List, [], ◌∷◌}

-- the values of a function at the numbers below one
abbrev pub listed_below : {A : Type 0} → ℕ → (ℕ → A) → List A
listed_below zero f = []
listed_below (suc n) f = f 0 ∷ listed_below n (λ i. f (suc i))
