use Rattle.std.proofs.Common.{map, flat_map, fold, []}
use Rattle.sml_tree.specs.Content.{item_content}
use Rattle.sml_domain.specs.Names.{distinct_more}
use Rattle.sml_check_build.specs.Numbers as numbers
use Rattle.sml_check_faults.proofs.Rests.{Rest}
use Rattle.sml_check_build.proofs.names.action_names.Given as goal

abbrev pub invariant-loop-item : goal.invariant-loop-item
invariant-loop-item g l = Rest (λ ys. fold distinct_more l.names (flat_map numbers.names_of_actions (numbers.classes_in (map item_content ys)))) l.items l.item-index (fold distinct_more [] (flat_map numbers.names_of_actions (numbers.classes_in (map item_content l.items))))
