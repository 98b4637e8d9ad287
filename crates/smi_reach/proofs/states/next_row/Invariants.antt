-- None before the place is.
use Rattle.smi_reach.specs.Found.{NoneIsIn}
use Rattle.smi_reach.proofs.states.next_row.Given as goal

abbrev pub invariant-loop-j : goal.invariant-loop-j
invariant-loop-j l = NoneIsIn l.rows l.reached l.left l.j
