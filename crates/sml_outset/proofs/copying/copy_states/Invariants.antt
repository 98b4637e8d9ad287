use Rattle.std.proofs.Common.{◌≡◌, take}
use Rattle.sml_outset.proofs.copying.copy_states.Given as goal

abbrev pub invariant-loop-state : goal.invariant-loop-state
invariant-loop-state l = l.made.items ≡ take l.state-index l.states
