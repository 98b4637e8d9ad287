-- The opening world.
use Rattle.smi_core.proofs.Opened.{opened}
use Rattle.smi_core.proofs.stepper.Core.new.Goals as goal

pub returns-clause-opening : goal.returns-clause-opening
returns-clause-opening c = opened c.in-Ok-new-2.board c.in-Ok-new.mail c.in-Ok-no_tasks.tasks.items c.in-Ok-new-2.ensures.journal c.in-Ok-new-2.ensures.mail c.in-Ok-new.ensures.taken c.in-Ok-new.ensures.waiting c.in-Ok-new-2.ensures.kept c.in-Ok-no_tasks.ensures.none
