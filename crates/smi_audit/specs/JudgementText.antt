-- The line of a judgement.
use Rattle.std.specs.Prelude.{ℕ, List, ◌++◌, codes}
use Rattle.std.specs.Fmt.{decimal}
use Rattle.smi_audit_rules.specs.RuleText.{rule_text}
use Rattle.smi_audit.specs.declared.judgement.Judgement.{Judgement}
use Rattle.smi_audit.specs.declared.judgement.Judgement.TheVariants.{Legal, Illegal}

-- what a judgement reads, without a line feed
abbrev pub ruling_text : Judgement → List ℕ
ruling_text Legal = codes "Legal"
ruling_text (Illegal line rule) = codes "Illegal " ++ decimal line ++ codes " " ++ rule_text rule
