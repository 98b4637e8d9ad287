use Rattle.std.proofs.Common.{map, flat_map}
use Rattle.sml_tree.specs.Content.{state_content}
use Rattle.sml_check_faults.specs.Lookup as look
use Rattle.sml_check_build.specs.Signed.{with_actions}
use Rattle.sml_check_faults.proofs.Rests.{Rest}
use Rattle.sml_check_build.proofs.signatures.add_states.Given as goal

abbrev pub invariant-loop-state : goal.invariant-loop-state
invariant-loop-state g l = Rest (λ ys. with_actions l.names l.made (flat_map look.actions_of (map state_content ys))) l.states.items l.state-index (with_actions l.names l.initial.made (flat_map look.actions_of (map state_content l.states.items)))
