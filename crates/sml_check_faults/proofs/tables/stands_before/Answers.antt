use Rattle.std.proofs.Common.{ap}
use Rattle.sml_check_faults.specs.Tables.{is_before}
use Rattle.sml_check_faults.proofs.tables.stands_before.Goals as goal

pub returns-in-Some : goal.returns-in-Some
returns-in-Some c = ap (is_before c.args.end) c.in-Some.ensures.value

pub returns-in-None : goal.returns-in-None
returns-in-None c = ap (is_before c.args.end) c.in-None.ensures.value
