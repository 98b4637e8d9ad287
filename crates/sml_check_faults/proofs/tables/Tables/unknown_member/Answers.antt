use Rattle.sml_check_faults.proofs.Rests.{rest_end}
use Rattle.sml_check_faults.proofs.tables.Tables.unknown_member.Goals as goal

pub returns : goal.returns
returns g c = rest_end c.loop-member.invariant c.loop-member-test.false
