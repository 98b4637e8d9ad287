use Rattle.std.proofs.Common.{map}
use Rattle.sml_tree.specs.Content.{action_param_content}
use Rattle.sml_check_faults.specs.Heads as heads
use Rattle.sml_check_faults.proofs.Twice.{Pairs}
use Rattle.sml_check_faults.proofs.differing.same_params.Given as goal

abbrev pub invariant-loop-i : goal.invariant-loop-i
invariant-loop-i g l = Pairs action_param_content l.params l.others l.i (heads.same_params (map action_param_content l.params) (map action_param_content l.others))
