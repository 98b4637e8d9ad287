-- The laws of the rules.
use Rattle.std.specs.Prelude.{◌≡◌, ◌↔◌, ℕ, List}
use Rattle.sml_domain.specs.Domain.{Domain}
use Rattle.smi_journal_entries.specs.declared.entry.Entry.{Entry}
use Rattle.smi_journal_entries.specs.declared.journal.Format.{Format}
use Rattle.smi_meaning.specs.Legal.{IsLegalAt, IsLegal}
use Rattle.smi_audit_rules.specs.declared.rule.Rule.{Rule}
use Rattle.smi_audit_rules.specs.Rules.{rules_of, KeepsAll, Breaks}
use Rattle.smi_audit_rules.specs.Judged.{IsBrokenAt}

-- an entry may follow a journal exactly if it keeps its rules
abbrev pub KeptIsLegal : Type 0
KeptIsLegal = (format : Format) (d : Domain) (J : List Entry) (e : Entry) → IsLegalAt format d J e ↔
    KeepsAll format d J e (rules_of format e)

-- if it breaks a rule it may not
abbrev pub BrokenIsIllegal : Type 0
BrokenIsIllegal = (format : Format) (d : Domain) (J : List Entry) (e : Entry) (r : Rule) → Breaks format d J e r →
    ¬ IsLegalAt format d J e

-- it breaks one rule first
abbrev pub OneIsFirst : Type 0
OneIsFirst = (format : Format) (d : Domain) (J : List Entry) (e : Entry) (r other : Rule) → Breaks format d J e r →
    Breaks format d J e other → r ≡ other

-- no entry neither may follow nor breaks a rule first
abbrev pub KeptOrBroken : Type 0
KeptOrBroken = (format : Format) (d : Domain) (J : List Entry) (e : Entry) → (¬ IsLegalAt format d J e) →
    ¬ ((r : Rule) → ¬ Breaks format d J e r)

-- no line of a legal journal breaks a rule
abbrev pub LegalIsUnbroken : Type 0
LegalIsUnbroken = (format : Format) (d : Domain) (J : List Entry) (line : ℕ) (r : Rule) → IsLegal format d J →
    ¬ IsBrokenAt format d J line r

-- a journal has one first line that breaks a rule, and one rule that is broken first there
abbrev pub OnePlace : Type 0
OnePlace = (format : Format) (d : Domain) (J : List Entry) (line other : ℕ) (r s : Rule) →
    IsBrokenAt format d J line r → IsBrokenAt format d J other s → (line ≡ other) × (r ≡ s)

-- no journal neither is legal nor has such a line
abbrev pub LegalOrBroken : Type 0
LegalOrBroken = (format : Format) (d : Domain) (J : List Entry) → (¬ IsLegal format d J) →
    ¬ ((line : ℕ) (r : Rule) → ¬ IsBrokenAt format d J line r)
