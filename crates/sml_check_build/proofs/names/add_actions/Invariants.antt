use Rattle.std.proofs.Common.{map, fold}
use Rattle.sml_tree.specs.Content.{action_content}
use Rattle.sml_domain.specs.Names.{distinct_more}
use Rattle.sml_check_build.specs.Numbers as numbers
use Rattle.sml_check_faults.proofs.Rests.{Rest}
use Rattle.sml_check_build.proofs.names.add_actions.Given as goal

abbrev pub invariant-loop-action : goal.invariant-loop-action
invariant-loop-action g l = Rest (λ ys. fold distinct_more l.names (map numbers.action_name (map action_content ys))) l.actions.items l.action-index (fold distinct_more l.initial.names (map numbers.action_name (map action_content l.actions.items)))
