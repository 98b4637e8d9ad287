use Rattle.sml_check_faults.proofs.Rests.{rest_end}
use Rattle.sml_check_faults.proofs.tables.Tables.some_lacks_action.Goals as goal

pub returns : goal.returns
returns g c = rest_end c.loop-object.invariant c.loop-object-test.false
