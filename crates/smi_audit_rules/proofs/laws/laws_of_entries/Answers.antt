use Rattle.smi_audit_rules.proofs.Kept.{keeps_in, keeps_out}
use Rattle.smi_audit_rules.proofs.Places.{broken_is_illegal, one_is_first, kept_or_broken}
use Rattle.smi_audit_rules.proofs.laws.laws_of_entries.Goals as goal

pub returns-clause-kept : goal.returns-clause-kept
returns-clause-kept c format d J e = (keeps_in format d J e, keeps_out format d J e)

pub returns-clause-broken : goal.returns-clause-broken
returns-clause-broken c = broken_is_illegal

pub returns-clause-one : goal.returns-clause-one
returns-clause-one c = one_is_first

pub returns-clause-some : goal.returns-clause-some
returns-clause-some c = kept_or_broken
