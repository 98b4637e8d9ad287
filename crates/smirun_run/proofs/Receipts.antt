-- Receipts that are not met.
use Rattle.std.proofs.Common.{List, not}
use Rattle.std.proofs.lemmas.Bool.{not-true}
use Rattle.std.proofs.lemmas.List.Elements.{filter_passes}
use Rattle.smi_journal_entries.specs.declared.entry.Entry.{Entry}
use Rattle.smi_run_report.specs.Receipts.{is_met, unmet_among}
use Rattle.smi_run_report.specs.declared.told.Receipt.{Receipt}
use Rattle.smirun_run.specs.Told.{AreUnmet}

-- of those that are not met none is met
pub none_met : (past : List Entry) (rs : List Receipt) → AreUnmet past (unmet_among past rs)
none_met past rs = λ k d within. not-true _ (filter_passes (λ r. not (is_met past r)) rs k d within)
