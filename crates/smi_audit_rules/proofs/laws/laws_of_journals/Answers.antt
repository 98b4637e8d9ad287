use Rattle.smi_audit_rules.proofs.Places.{legal_is_unbroken, one_place, legal_or_broken}
use Rattle.smi_audit_rules.proofs.laws.laws_of_journals.Goals as goal

pub returns-clause-legal : goal.returns-clause-legal
returns-clause-legal c = legal_is_unbroken

pub returns-clause-one : goal.returns-clause-one
returns-clause-one c = one_place

pub returns-clause-some : goal.returns-clause-some
returns-clause-some c = legal_or_broken
