use Rattle.smi_live_carried.proofs.Recalling.{begins_with, one_more_recalled, recalls_each}
use Rattle.smi_live_carried.proofs.laws.laws_of_recalling.Goals as goal

pub returns-clause-more : goal.returns-clause-more
returns-clause-more c = one_more_recalled

pub returns-clause-each : goal.returns-clause-each
returns-clause-each c = recalls_each

pub returns-clause-numbers : goal.returns-clause-numbers
returns-clause-numbers c = begins_with
