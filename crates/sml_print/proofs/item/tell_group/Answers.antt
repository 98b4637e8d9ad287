use Rattle.std.proofs.Common.{ap}
use Rattle.sml_text.proofs.Writes.{told_as}
use Rattle.sml_print.specs.Words.{members_text}
use Rattle.sml_print.proofs.Tolds.{then_told}
use Rattle.sml_print.proofs.item.tell_group.Goals as goal

pub returns-clause-told : goal.returns-clause-told
returns-clause-told g c =
    then_told c.tell.ensures.told (then_told c.tell_name.ensures.told (then_told c.tell-2.ensures.told
    (then_told (told_as _ _ _ _ _ _ c.tell_members.ensures.told (ap members_text c.deref.ensures.value)) c.tell-3.ensures.told)))
