use Rattle.std.proofs.Common.{◌≡◌, map, drop}
use Rattle.std.specs.List.{position_from}
use Rattle.sml_check_faults.specs.Lookup.{is_action_param}
use Rattle.sml_tree.specs.Content.{action_content, action_param_content}
use Rattle.sml_check_build.specs.Programs as says
use Rattle.sml_check_build.proofs.values.action_place.Given as goal

abbrev pub invariant-loop-i : goal.invariant-loop-i
invariant-loop-i g l = position_from (is_action_param l.name) l.i (map action_param_content (drop l.i l.action.params.items)) ≡ says.action_param_place (action_content l.action) l.name
