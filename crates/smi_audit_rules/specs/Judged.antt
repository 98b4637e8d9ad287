-- The first illegal line of a journal, and the first rule that is broken there.
use Rattle.std.specs.Prelude.{◌≡◌, ℕ, ◌+◌, List, ◌∷◌, ◌++◌, length}
use Rattle.sml_domain.specs.Domain.{Domain}
use Rattle.smi_journal_entries.specs.declared.entry.Entry.{Entry}
use Rattle.smi_journal_entries.specs.declared.journal.Format.{Format}
use Rattle.smi_meaning.specs.Legal.{IsLegal}
use Rattle.smi_audit_rules.specs.declared.rule.Rule.{Rule}
use Rattle.smi_audit_rules.specs.Rules.{Breaks}

-- the entries before a line are legal, and the entry there breaks this rule first. Lines count from 1, and the first
-- one is the header
pub record IsBrokenAt (format : Format) (d : Domain) (J : List Entry) (line : ℕ) (rule : Rule) : Type 0 where
  pub past : List Entry
  pub entry : Entry
  pub rest : List Entry
  pub split : J ≡ past ++ entry ∷ rest
  pub legal : IsLegal format d past
  pub breaks : Breaks format d past entry rule
  pub number : line ≡ length past + 2
