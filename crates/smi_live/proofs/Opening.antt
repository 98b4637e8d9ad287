-- How a manager begins.
use Rattle.std.proofs.Common.{◌≡◌, sym, subst, []}
use Rattle.sml_domain.specs.Sound.{IsSound}
use Rattle.smi_world.specs.World.{World, opening}
use Rattle.smi_world.specs.Runs.{IsReached}
use Rattle.smi_core.specs.Machines.{CoreView}
use Rattle.smi_live_accounts.specs.Accounts.{AccountsTell, AccountsView}

-- its world is reached by no steps, and what is kept tells of no entry
pub opens : (m : CoreView) (a : AccountsView) → IsSound m.setup.domain → m.world ≡ opening m.setup → AccountsTell m.setup.domain [] a → IsReached m.setup m.world × AccountsTell m.setup.domain m.world.journal a
opens m a sound e tells = (
  record { steps = []; answers = []; reaches = record { sound = sound; run = e } },
  subst (λ (w : World). AccountsTell m.setup.domain w.journal a) (sym e) tells,
)
