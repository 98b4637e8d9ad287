use Rattle.std.proofs.Common.{map}
use Rattle.std.specs.List.{list_any}
use Rattle.sml_tree.specs.Content.{action_content}
use Rattle.sml_check_faults.specs.Lookup as look
use Rattle.sml_check_faults.proofs.Rests.{Rest}
use Rattle.sml_check_faults.proofs.repeated.names_action.Given as goal

abbrev pub invariant-loop-action : goal.invariant-loop-action
invariant-loop-action g l = Rest (λ ys. list_any (look.is_action_named l.name) (map action_content ys)) l.actions l.action-index (let ys = l.actions in list_any (look.is_action_named l.name) (map action_content ys))
