use Rattle.std.proofs.Common.{◌≡◌, ℕ, length}
use Rattle.sml_text.specs.Stream.{reading}
use Rattle.sml_text.proofs.tokens.is_end.Given as goal

abbrev pub invariant-skip : goal.invariant-skip
invariant-skip l = (at : ℕ) → (place : ℕ) × (reading l.fn.source at l.fn.text ≡ reading l.fn.source place l.rest)

abbrev pub decreases-skip : goal.decreases-skip
decreases-skip l = length l.rest
