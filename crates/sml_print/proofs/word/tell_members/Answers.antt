use Rattle.sml_text.proofs.Writes.{told_as}
use Rattle.sml_print.proofs.Tolds.{members_some}
use Rattle.sml_print.proofs.Tolds.{then_told}
use Rattle.sml_print.proofs.word.tell_members.Goals as goal

pub returns-clause-told : goal.returns-clause-told
returns-clause-told g c =
    told_as _ _ _ _ _ _ (then_told c.tell-2.ensures.told (then_told c.tell_names.ensures.told c.tell-3.ensures.told)) (members_some c.args.names.now c.if-is_empty.ensures)
