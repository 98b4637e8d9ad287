-- What a judgement says.
use Rattle.std.specs.Prelude.{◌≡◌, ℕ, List, All}
use Rattle.sml_domain.specs.Domain.{Domain}
use Rattle.smi_journal_entries.specs.declared.entry.Entry.{Entry}
use Rattle.smi_journal_entries.specs.declared.journal.Format.{Format}
use Rattle.smi_journal.specs.HasText.{HasTextIn}
use Rattle.smi_journal.specs.JournalText.{journal_text}
use Rattle.smi_meaning.specs.Legal.{IsLegal}
use Rattle.smi_audit_rules.specs.Judged.{IsBrokenAt}
use Rattle.smi_audit.specs.declared.judgement.Judgement.{Judgement}
use Rattle.smi_audit.specs.declared.judgement.Judgement.TheVariants.{Legal, Illegal}

-- a journal of a format is legal, or this line is the first that breaks a rule, and breaks this rule first
abbrev pub IsJudged : Format → Domain → List Entry → Judgement → Type 0
IsJudged format d J Legal = IsLegal format d J
IsJudged format d J (Illegal line rule) = IsBrokenAt format d J line rule

-- bytes are the text of a journal of which this is so, in the format that their first line names
pub record Judges (d : Domain) (bytes : List ℕ) (j : Judgement) : Type 0 where
  pub format : Format
  pub entries : List Entry
  pub texts : All (HasTextIn format d) entries
  pub whole : bytes ≡ journal_text format d entries
  pub judged : IsJudged format d entries j
