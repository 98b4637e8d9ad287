use Rattle.smi_live_once.proofs.Chains.{chains_grow}
use Rattle.smi_live_once.proofs.laws.laws_of_chains.Goals as goal

pub returns : goal.returns
returns c = record { grow = chains_grow }
