use Rattle.std.proofs.Common.{map}
use Rattle.sml_tree.specs.Content.{action_content}
use Rattle.sml_check_build.specs.Signed.{with_actions}
use Rattle.sml_check_faults.proofs.Rests.{Rest}
use Rattle.sml_check_build.proofs.signatures.add_actions.Given as goal

abbrev pub invariant-loop-action : goal.invariant-loop-action
invariant-loop-action g l = Rest (λ ys. with_actions l.names l.made (map action_content ys)) l.actions.items l.action-index (with_actions l.names l.initial.made (map action_content l.actions.items))
