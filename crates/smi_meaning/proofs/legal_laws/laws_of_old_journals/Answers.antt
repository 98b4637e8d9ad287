use Rattle.smi_meaning.proofs.Old.{members_stay}
use Rattle.smi_meaning.proofs.legal_laws.laws_of_old_journals.Goals as goal

pub returns : goal.returns
returns c = members_stay
