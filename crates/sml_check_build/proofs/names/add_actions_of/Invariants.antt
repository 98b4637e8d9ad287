use Rattle.std.proofs.Common.{map, flat_map, fold}
use Rattle.sml_tree.specs.Content.{state_content}
use Rattle.sml_check_faults.specs.Lookup as look
use Rattle.sml_domain.specs.Names.{distinct_more}
use Rattle.sml_check_build.specs.Numbers as numbers
use Rattle.sml_check_faults.proofs.Rests.{Rest}
use Rattle.sml_check_build.proofs.names.add_actions_of.Given as goal

abbrev pub invariant-loop-state : goal.invariant-loop-state
invariant-loop-state g l = Rest (λ ys. fold distinct_more l.names (map numbers.action_name (flat_map look.actions_of (map state_content ys)))) l.states.items l.state-index (fold distinct_more l.initial.names (map numbers.action_name (flat_map look.actions_of (map state_content l.states.items))))
