use Rattle.smi_lines.proofs.Tolds.{then_told}
use Rattle.smi_lines.proofs.answer.tell_refused.Goals as goal

pub returns-clause-told : goal.returns-clause-told
returns-clause-told g c = then_told c.tell.ensures.told (then_told c.tell-2.ensures.told c.tell-3.ensures.told)
