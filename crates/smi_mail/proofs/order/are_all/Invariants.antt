use Rattle.std.proofs.Common.{◌<◌, ◌+◌, ℕ}
use Rattle.smi_mail.specs.Drains.{HasSession}
use Rattle.smi_mail.proofs.order.are_all.Given as goal

abbrev pub invariant-loop-place : goal.invariant-loop-place
invariant-loop-place g l = (k : ℕ) → k < l.place → HasSession (k + 1) l.fn.ends
