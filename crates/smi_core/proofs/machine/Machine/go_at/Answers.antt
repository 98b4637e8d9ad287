-- An object that waits on.
use Rattle.smi_core.proofs.Taking.{still_goes}
use Rattle.smi_core.proofs.machine.Machine.go_at.Goals as goal

pub returns-in-None : goal.returns-in-None
returns-in-None c = still_goes _ _ _ _ _ c.in-None.ensures c.told.ensures c.requires.within c.requires.opened c.requires.logical c.waits_next.ensures.next c.waits_next.ensures.left
