use Rattle.sml_print.proofs.Tolds.{then_told}
use Rattle.sml_print.proofs.block.tell_waited.Goals as goal

pub returns-clause-told : goal.returns-clause-told
returns-clause-told g c = then_told c.tell_every.ensures.told c.tell_name.ensures.told
