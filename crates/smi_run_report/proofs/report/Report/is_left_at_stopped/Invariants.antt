use Rattle.std.proofs.Common.{◌<◌, ℕ}
use Rattle.smi_run_report.specs.Rests.{IsStopped}
use Rattle.smi_run_report.proofs.report.Report.is_left_at_stopped.Given as goal

abbrev pub invariant-loop-o : goal.invariant-loop-o
invariant-loop-o g l = (x : ℕ) → x < l.o → IsStopped l.self.journal l.self.drained x
