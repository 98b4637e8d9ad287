use Rattle.std.proofs.Common.{◌<◌, ℕ}
use Rattle.smi_run_report.specs.Rests.{IsResting}
use Rattle.smi_run_report.proofs.report.Report.is_at_rest.Given as goal

abbrev pub invariant-loop-o : goal.invariant-loop-o
invariant-loop-o g l = (x : ℕ) → x < l.o → IsResting g.K.MailNames.names.domain l.self.journal x
