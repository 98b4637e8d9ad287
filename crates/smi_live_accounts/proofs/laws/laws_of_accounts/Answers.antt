use Rattle.smi_live_accounts.proofs.Accounting.{noted_to, one_reached}
use Rattle.smi_live_accounts.proofs.Answering.{requested_as}
use Rattle.smi_live_accounts.proofs.laws.laws_of_accounts.Goals as goal

pub returns-clause-noted : goal.returns-clause-noted
returns-clause-noted c = noted_to

pub returns-clause-reaches : goal.returns-clause-reaches
returns-clause-reaches c = one_reached

pub returns-clause-answered : goal.returns-clause-answered
returns-clause-answered c = λ m w w2 k x y passed r q text added reached.
    requested_as c.laws_of_fates.ensures.unstarted c.every_run.ensures.legal c.every_run.ensures.front m w w2 reached k x y passed r q text added
