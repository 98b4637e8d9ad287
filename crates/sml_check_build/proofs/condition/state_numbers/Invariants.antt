use Rattle.sml_check_build.specs.Programs as says
use Rattle.sml_check_build.proofs.Gathered.{Gathers}
use Rattle.sml_check_build.proofs.condition.state_numbers.Given as goal

abbrev pub invariant-loop-state : goal.invariant-loop-state
invariant-loop-state l = Gathers (says.state_numbers l.names) l.numbers.items l.states l.state-index (says.state_numbers l.names l.states)
