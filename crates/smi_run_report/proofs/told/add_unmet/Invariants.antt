use Rattle.std.proofs.Common.{◌≡◌, ◌++◌, take}
use Rattle.smi_run_report.specs.Receipts.{unmet_among}
use Rattle.smi_run_report.proofs.told.add_unmet.Given as goal

abbrev pub invariant-loop-receipt : goal.invariant-loop-receipt
invariant-loop-receipt l =
    l.unmet.items ≡ l.initial.unmet.items ++ unmet_among l.journal (take l.receipt-index l.receipts)
