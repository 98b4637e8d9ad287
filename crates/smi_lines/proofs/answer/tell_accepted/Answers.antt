use Rattle.smi_lines.proofs.Tolds.{then_told}
use Rattle.smi_lines.proofs.answer.tell_accepted.Goals as goal

pub returns-clause-told : goal.returns-clause-told
returns-clause-told g c =
    then_told c.tell.ensures.told (then_told c.tell_session.ensures.told (then_told c.tell_object.ensures.told (then_told c.tell_number.ensures.told (then_told c.tell_call.ensures.told c.tell-2.ensures.told))))
