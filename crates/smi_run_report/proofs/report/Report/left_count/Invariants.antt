-- The count is that of the sender's letters before the turn's.
use Rattle.std.proofs.Common.{◌≡◌, ◌≤◌, length, take}
use Rattle.smi_mail.specs.Letters.{letters_from}
use Rattle.smi_run_report.proofs.report.Report.left_count.Given as goal

abbrev pub invariant-loop-envelope : goal.invariant-loop-envelope
invariant-loop-envelope g l = (l.count ≡ length (letters_from l.sender (take l.envelope-index l.left)))
    × (l.count ≤ l.envelope-index)
