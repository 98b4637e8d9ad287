use Rattle.sml_print.proofs.Tolds.{then_told}
use Rattle.sml_print.proofs.item.tell_action.Goals as goal

pub returns-clause-told : goal.returns-clause-told
returns-clause-told g c = then_told c.tell.ensures.told (then_told c.tell_name.ensures.told (then_told c.tell_action_params.ensures.told (then_told c.tell-2.ensures.told c.tell_block.ensures.told)))
