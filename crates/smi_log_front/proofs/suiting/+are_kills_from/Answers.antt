use Rattle.std.proofs.Common.{arith}
use Rattle.smi_log_front.proofs.suiting.+are_kills_from.Goals as goal

pub overflow_add-get : goal.overflow_add-get
overflow_add-get t c =
    let small = c.is_kill_from.ensures.small c.if-is_kill_from.true in
    let is = c.get.ensures in
    omega (arith, small, is)
