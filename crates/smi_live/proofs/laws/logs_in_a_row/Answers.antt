-- The laws of logs in a row.
use Rattle.smi_live.proofs.ChainLaws.{each_once, told_since_begun}
use Rattle.smi_live.proofs.laws.logs_in_a_row.Goals as goal

pub returns-clause-once : goal.returns-clause-once
returns-clause-once c = each_once c.laws_of_chains.ensures.grow

pub returns-clause-told : goal.returns-clause-told
returns-clause-told c = told_since_begun
