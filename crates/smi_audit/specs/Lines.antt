-- Judging line by line.
use Rattle.std.specs.Prelude.{◌≡◌, ℕ, List, All}
use Rattle.sml_domain.specs.Domain.{Domain}
use Rattle.smi_journal_entries.specs.declared.entry.Entry.{Entry}
use Rattle.smi_journal_entries.specs.declared.journal.Format.{Format}
use Rattle.smi_journal.specs.HasText.{HasTextIn}
use Rattle.smi_journal.specs.JournalText.{lines_text}
use Rattle.smi_journal.specs.ReadJournal.{BeginsWith}
use Rattle.smi_meaning.specs.Legal.{IsLegal}
use Rattle.smi_audit.specs.declared.judge.Judge.{Judge}
use Rattle.smi_audit.specs.Judges.{AddsLegal, JudgeIsKept}

-- the line of an entry of a format is in front, and that entry was added
pub record FollowsLine (format : Format) (d : Domain) (old new : Judge) (rest more : List ℕ) : Type 0 where
  pub entry : Entry
  pub begins : BeginsWith format d rest entry more
  pub adds : AddsLegal old new entry

-- bytes are the lines of entries that are legal in a format, and a judge has them
pub record HasJudgedLines (format : Format) (d : Domain) (bytes : List ℕ) (j : Judge) : Type 0 where
  pub kept : JudgeIsKept j
  pub format_is : j.format ≡ format
  pub domain : j.books.domain ≡ d
  pub texts : All (HasTextIn format d) j.books.journal
  pub whole : bytes ≡ lines_text d j.books.journal
  pub legal : IsLegal format d j.books.journal
