use Rattle.std.proofs.Common.{flat_map, map}
use Rattle.sml_tree.specs.Content.{action_param_content}
use Rattle.sml_check_faults.specs.Lookup as look
use Rattle.sml_check_faults.specs.Heads as heads
use Rattle.sml_check_faults.proofs.Rests.{Rest}
use Rattle.sml_check_faults.proofs.heads.action_param_mismatch.Given as goal

abbrev pub invariant-loop-param : goal.invariant-loop-param
invariant-loop-param g l = Rest (λ ys. look.first_item (flat_map heads.action_param_mismatch (map action_param_content ys))) l.params l.param-index (let ys = l.params in look.first_item (flat_map heads.action_param_mismatch (map action_param_content ys)))
