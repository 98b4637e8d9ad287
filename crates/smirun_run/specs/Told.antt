-- What is reported about a run.
use Rattle.std.specs.Prelude.{◌≡◌, ℕ, false, List, length}
use Rattle.std.specs.List.{All}
use Rattle.sml_domain.specs.Domain.{Domain}
use Rattle.smi_journal_entries.specs.declared.entry.Entry.{Entry}
use Rattle.smi_run_report.specs.Receipts.{is_met}
use Rattle.smi_run_report.specs.Reports.{ReportSide, IsFinalReport}
use Rattle.smi_run_report.specs.declared.told.Receipt.{Receipt}
use Rattle.smirun_run.specs.Summary.{summary_text}
use Rattle.smirun_run.specs.declared.outcome.Outcome.{Outcome}

-- a journal agrees with none of these receipts
abbrev pub AreUnmet : List Entry → List Receipt → Type 0
AreUnmet J receipts = All (λ r. is_met J r ≡ false) receipts

-- a run with a count of sessions has a report of its journal; the summary is the text of that report, of the end of the
-- run, and of how many lines of each session were refused
pub record IsSummed (d : Domain) (sessions : ℕ) (o : Outcome) : Type 0 where
  pub report : ReportSide
  pub refused : List ℕ
  pub final : IsFinalReport d sessions report.journal report.accepted report.drained
  pub journal : o.journal.entries ≡ report.journal
  pub counts : length refused ≡ sessions
  pub text : o.summary.items ≡ summary_text d report o.end refused
