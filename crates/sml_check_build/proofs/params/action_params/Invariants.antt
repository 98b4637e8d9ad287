use Rattle.std.proofs.Common.{map}
use Rattle.sml_tree.specs.Content.{action_param_content}
use Rattle.sml_check_build.specs.Rows as rows
use Rattle.sml_check_build.proofs.Gathered.{Gathers}
use Rattle.sml_check_build.proofs.params.action_params.Given as goal

abbrev pub invariant-loop-param : goal.invariant-loop-param
invariant-loop-param g l = Gathers (λ ys. map rows.action_param_row (map action_param_content ys)) l.made.items l.params.items l.param-index (map rows.action_param_row (map action_param_content l.params.items))
