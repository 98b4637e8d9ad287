use Rattle.smi_mail.proofs.Ordering.{IsOrdered}
use Rattle.smi_mail.proofs.order.in_order.Given as goal

abbrev pub invariant-loop-place : goal.invariant-loop-place
invariant-loop-place g l = IsOrdered l.initial.ends.items l.place l.ends.items
