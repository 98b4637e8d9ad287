use Rattle.std.proofs.Common.{◌<◌, ℕ}
use Rattle.smi_outset_core.specs.Rests.{IsDoneAt}
use Rattle.smi_outset_core.proofs.resting.rests.Given as goal

abbrev pub invariant-loop-o : goal.invariant-loop-o
invariant-loop-o l = (x : ℕ) → x < l.o → IsDoneAt l.core.world x
