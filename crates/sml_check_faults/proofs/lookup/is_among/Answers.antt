use Rattle.sml_check_faults.proofs.Rests.{rest_end}
use Rattle.sml_check_faults.proofs.lookup.is_among.Goals as goal

pub returns : goal.returns
returns c = rest_end c.loop-other.invariant c.loop-other-test.false
