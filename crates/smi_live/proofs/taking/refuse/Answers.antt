use Rattle.smi_live.proofs.Stepped.{refused_makes}
use Rattle.smi_live.proofs.taking.refuse.Goals as goal

pub returns-clause-makes : goal.returns-clause-makes
returns-clause-makes g c = refused_makes c.begin_refused.result _ _ _ c.begin_refused.ensures.line c.begin_refused.ensures.text c.begin_refused.ensures.reads
