-- Pieces of a text that is read.
use Rattle.std.specs.Prelude.{◌≡◌, ◌≢◌, ◌==◌, ℕ, Bool, not, List, ◌++◌, Option, Some, None}

-- any byte but one
abbrev pub is_other_byte : ℕ → ℕ → Bool
is_other_byte end c = not (c == end)

-- what comes after a front that a text has, or that the text does not have it
abbrev pub ComesAfter : List ℕ → List ℕ → Option (List ℕ) → Type 0
ComesAfter text front (Some more) = text ≡ front ++ more
ComesAfter text front None = (more : List ℕ) → text ≢ front ++ more
