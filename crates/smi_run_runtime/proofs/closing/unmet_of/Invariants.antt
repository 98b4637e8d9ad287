use Rattle.std.proofs.Common.{◌≡◌}
use Rattle.smi_run_runtime.specs.Closing.{all_unmet}
use Rattle.smi_run_runtime.proofs.closing.unmet_of.Given as goal

abbrev pub invariant-loop-k : goal.invariant-loop-k
invariant-loop-k g l = l.unmet.items ≡ all_unmet l.journal l.closed l.k
