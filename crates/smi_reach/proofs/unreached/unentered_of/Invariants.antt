-- The list has those of the rows so far.
use Rattle.std.proofs.Common.{◌≡◌, ℕ, Some, Contains, take, slice_get}
use Rattle.std.specs.Prelude.{◌↔◌}
use Rattle.sml_domain.specs.Domain.{Class}
use Rattle.smi_reach.specs.Unreached.{IsUnenteredAmong}
use Rattle.smi_reach.proofs.unreached.unentered_of.Given as goal

abbrev pub invariant-loop-row : goal.invariant-loop-row
invariant-loop-row l = (c : Class) → slice_get l.domain.classes l.fn.number ≡ Some c → (s : ℕ) → IsUnenteredAmong l.domain c (take l.row-index c.states) s ↔ Contains l.list.items s
