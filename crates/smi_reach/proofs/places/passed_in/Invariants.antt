-- The instructions so far are passed.
use Rattle.std.proofs.Common.{◌<◌, ℕ}
use Rattle.smi_reach.specs.Reach.{IsPassedAt}
use Rattle.smi_reach.proofs.places.passed_in.Given as goal

abbrev pub invariant-loop-place : goal.invariant-loop-place
invariant-loop-place l = (i : ℕ) → i < l.place → IsPassedAt l.domain l.block i
