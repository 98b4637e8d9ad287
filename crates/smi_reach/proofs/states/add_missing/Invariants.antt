-- Those before the place are there.
use Rattle.std.proofs.Common.{take}
use Rattle.smi_reach.specs.Found.{AddsMissing}
use Rattle.smi_reach.proofs.states.add_missing.Given as goal

abbrev pub invariant-loop-state : goal.invariant-loop-state
invariant-loop-state l = AddsMissing l.fn.list.items (take l.state-index l.more) l.list.items
