use Rattle.smi_run_runtime.specs.Closing.{AreAllThere}
use Rattle.smi_run_runtime.proofs.seats.is_missing.Given as goal

abbrev pub invariant-loop-k : goal.invariant-loop-k
invariant-loop-k g l = AreAllThere l.k l.closed
