use Rattle.sml_print.proofs.Tolds.{then_told}
use Rattle.sml_print.proofs.condition.tell_test.Goals as goal

pub returns-clause-told : goal.returns-clause-told
returns-clause-told g c = then_told c.tell_scope.ensures.told (then_told c.tell_name.ensures.told (then_told c.tell_sense.ensures.told c.tell_states.ensures.told))
