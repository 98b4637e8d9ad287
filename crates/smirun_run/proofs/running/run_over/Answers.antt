use Rattle.std.proofs.Common.{List, subst, sym}
use Rattle.smi_journal_entries.specs.declared.entry.Entry.{Entry}
use Rattle.smi_run_report.specs.declared.told.Receipt.{Receipt}
use Rattle.smirun_run.specs.Told.{AreUnmet}
use Rattle.smirun_run.proofs.Receipts.{none_met}
use Rattle.smirun_run.proofs.running.run_over.Goals as goal

-- the receipts that were looked for in the report's journal, which is that of the outcome
pub returns-in-Ok-clause-unmet : goal.returns-in-Ok-clause-unmet
returns-in-Ok-clause-unmet g c =
    let o = c.in_ok-outcome_of-in-Ok.ensures in
    let past = c.in-Ok.report.journal in
    subst (λ (later : List Entry). AreUnmet later c.in_ok-outcome_of-in-Ok.field-0.unmet.items) (sym o.journal)
    (subst (λ (rs : List Receipt). AreUnmet past rs) (sym o.unmet) (none_met past c.in-Ok.report.unmet))
