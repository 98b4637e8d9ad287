use Rattle.std.proofs.Common.{◌≤◌, ◌-◌, length}
use Rattle.smi_mail.specs.Drains.{HasSessionFrom}
use Rattle.smi_mail.proofs.order.place_of.Given as goal

abbrev pub invariant-places : goal.invariant-places
invariant-places g l = (l.fn.from ≤ l.place) × HasSessionFrom l.place l.fn.session l.fn.ends

abbrev pub decreases-places : goal.decreases-places
decreases-places g l = length l.fn.ends - l.place
