-- Those of the actions before the place are there.
use Rattle.std.proofs.Common.{take}
use Rattle.smi_reach.specs.Found.{AddsEnds}
use Rattle.smi_reach.proofs.states.add_ends.Given as goal

abbrev pub invariant-loop-action : goal.invariant-loop-action
invariant-loop-action l = AddsEnds l.domain (take l.action-index l.row.actions) l.fn.list.items l.list.items
