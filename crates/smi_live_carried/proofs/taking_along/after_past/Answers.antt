use Rattle.smi_live_carried.proofs.Ends.{not_past}
use Rattle.smi_live_carried.proofs.taking_along.after_past.Goals as goal

pub returns-in-None : goal.returns-in-None
returns-in-None c = not_past c.args.answer.now c.in-None.ensures
