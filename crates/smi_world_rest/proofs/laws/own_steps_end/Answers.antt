use Rattle.smi_world_rest.proofs.Counting.{own_steps_count}
use Rattle.smi_world_rest.proofs.Spending.{own_steps_end}
use Rattle.smi_world_rest.proofs.laws.own_steps_end.Goals as goal

pub returns-clause-count : goal.returns-clause-count
returns-clause-count c = own_steps_count

pub returns-clause-end : goal.returns-clause-end
returns-clause-end c = own_steps_end
