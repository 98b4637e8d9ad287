use Rattle.smi_carried.proofs.Longest.{one_carried}
use Rattle.smi_carried.proofs.laws.laws_of_carried.Goals as goal

pub returns : goal.returns
returns c = one_carried
