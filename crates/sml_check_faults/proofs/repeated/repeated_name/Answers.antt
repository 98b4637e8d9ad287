use Rattle.sml_check_faults.proofs.Rests.{past_end}
use Rattle.sml_check_faults.proofs.repeated.repeated_name.Goals as goal

pub returns : goal.returns
returns c = past_end c.loop-i.invariant c.loop-i-test.false
