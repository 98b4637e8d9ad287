-- What is found of the class; a row fewer is left each time.
use Rattle.std.proofs.Common.{length}
use Rattle.smi_reach.specs.Found.{Finds}
use Rattle.smi_reach.proofs.states.states_of.Given as goal

abbrev pub invariant-loop-left : goal.invariant-loop-left
invariant-loop-left l = Finds l.domain l.class l.reached.items l.left.items

abbrev pub decreases-loop-left : goal.decreases-loop-left
decreases-loop-left l = length l.left.items
