use Rattle.smi_reach.proofs.Stays.{objects_are_in_them, ends_name_them, readings_name_them}
use Rattle.smi_reach.proofs.laws.laws_of_states.Goals as goal

pub returns-clause-objects : goal.returns-clause-objects
returns-clause-objects c = objects_are_in_them

pub returns-clause-ends : goal.returns-clause-ends
returns-clause-ends c = ends_name_them

pub returns-clause-readings : goal.returns-clause-readings
returns-clause-readings c = readings_name_them
