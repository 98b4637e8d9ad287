use Rattle.std.proofs.Common.{length}
use Rattle.show_states.proofs.lines.+tell_params_of.Given as goal

abbrev pub decreases-tell_params_of : goal.decreases-tell_params_of
decreases-tell_params_of g l = length l.params.now
