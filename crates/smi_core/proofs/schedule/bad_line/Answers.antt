use Rattle.smi_core.proofs.Tolds.{told_whole}
use Rattle.smi_core.proofs.schedule.bad_line.Goals as goal

pub returns-clause-ok : goal.returns-clause-ok
returns-clause-ok g c = told_whole c.tell_refused.ensures.told c.if-failed.false
