use Rattle.std.proofs.Common.{flat_map, map}
use Rattle.sml_tree.specs.Content.{action_param_content, passed_content}
use Rattle.sml_check_faults.specs.Lookup as look
use Rattle.sml_check_faults.specs.Faults as faults
use Rattle.sml_check_faults.proofs.Rests.{Rest}
use Rattle.sml_check_faults.proofs.param.missing_param.Given as goal

abbrev pub invariant-loop-param : goal.invariant-loop-param
invariant-loop-param g l = Rest (λ ys. look.first_item (flat_map (faults.missing_param (map passed_content l.args)) (map action_param_content ys))) l.params l.param-index (let ys = l.params in look.first_item (flat_map (faults.missing_param (map passed_content l.args)) (map action_param_content ys)))
