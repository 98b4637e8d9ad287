use Rattle.sml_print.proofs.Tolds.{then_told}
use Rattle.sml_print.proofs.block.tell_change.Goals as goal

pub returns-clause-told : goal.returns-clause-told
returns-clause-told g c = then_told c.tell.ensures.told (then_told c.tell_name.ensures.told
    (then_told c.tell-2.ensures.told (then_told c.tell_name-2.ensures.told c.tell-3.ensures.told)))
