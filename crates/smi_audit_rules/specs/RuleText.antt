-- The names of the rules.
use Rattle.std.specs.Prelude.{ℕ, List, codes}
use Rattle.smi_audit_rules.specs.declared.rule.Rule.{Rule}
use Rattle.smi_audit_rules.specs.declared.rule.Rule.TheVariants as rule

-- the name of a rule, as it is displayed
abbrev pub rule_text : Rule → List ℕ
rule_text rule.Split = codes "Split"
rule_text rule.Killed = codes "Killed"
rule_text rule.Open = codes "Open"
rule_text rule.Number = codes "Number"
rule_text rule.NotSent = codes "NotSent"
rule_text rule.BadRequest = codes "BadRequest"
rule_text rule.NotOpen = codes "NotOpen"
rule_text rule.Meaning = codes "Meaning"
rule_text rule.Dead = codes "Dead"
rule_text rule.Clear = codes "Clear"
rule_text rule.Busy = codes "Busy"
rule_text rule.Reading = codes "Reading"
rule_text rule.NotAState = codes "NotAState"
