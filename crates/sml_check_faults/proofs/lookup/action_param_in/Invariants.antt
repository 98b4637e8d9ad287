use Rattle.std.proofs.Common.{map}
use Rattle.std.specs.List.{find}
use Rattle.sml_tree.specs.Content.{action_param_content}
use Rattle.sml_check_faults.specs.Lookup as look
use Rattle.sml_check_faults.proofs.Rests.{Rest}
use Rattle.sml_check_faults.proofs.lookup.action_param_in.Given as goal

abbrev pub invariant-loop-param : goal.invariant-loop-param
invariant-loop-param g l = Rest (λ ys. find (look.is_action_param l.name) (map action_param_content ys)) l.params l.param-index (let ys = l.params in find (look.is_action_param l.name) (map action_param_content ys))
