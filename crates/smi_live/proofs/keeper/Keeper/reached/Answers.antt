use Rattle.std.proofs.Common.{subst}
use Rattle.smi_core.specs.Machines.{CoreView}
use Rattle.smi_world.specs.Runs.{IsReached}
use Rattle.smi_live_once.specs.Making.{Keeper}
use Rattle.smi_live.proofs.keeper.Keeper.reached.Goals as goal

pub returns : goal.returns
returns c = subst (λ (k : Keeper CoreView). IsReached k.core.setup k.core.world) c.self.view_is c.self.invariant.0
