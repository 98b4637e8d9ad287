use Rattle.smi_reach.proofs.Spots.{moves_lead_to_them}
use Rattle.smi_reach.proofs.laws.laws_of_places.Goals as goal

pub returns : goal.returns
returns c = moves_lead_to_them
