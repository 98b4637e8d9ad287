use Rattle.smi_world_rest.proofs.Ways.{moves_are_few}
use Rattle.smi_world_rest.proofs.laws.moves_are_few.Goals as goal

pub returns : goal.returns
returns c = moves_are_few
