-- The lines of a text, and what a machine of lines writes for them.
use Rattle.std.specs.Prelude.{◌≡◌, ◌==◌, ℕ, if◌then◌else◌, List, [], ◌∷◌, ◌++◌}

-- the line with the bytes in front of its first
abbrev pub onto : List ℕ → List (List ℕ) → List (List ℕ)
onto front [] = front ∷ []
onto front (line ∷ lines) = (front ++ line) ∷ lines

-- the lines of a text, without their line feeds. What follows the last line feed is a line too
abbrev pub lines_of : List ℕ → List (List ℕ)
lines_of [] = [] ∷ []
lines_of (b ∷ bs) = if b == 10 then [] ∷ lines_of bs else onto (b ∷ []) (lines_of bs)

-- makes m line out m2: in m the line writes out, and leads to m2
module _ {S : Type 0} (makes : S → List ℕ → List ℕ → S → Type 0) where
  -- what lines write, one after another
  abbrev pub Outputs : S → List (List ℕ) → List ℕ → S → Type 0
  Outputs m [] out m2 = (out ≡ []) × (m2 ≡ m)
  Outputs m (line ∷ lines) out m2 = (mid : S) × (one : List ℕ) × (rest : List ℕ) × makes m line one mid
      × Outputs mid lines rest m2 × (out ≡ one ++ rest)
