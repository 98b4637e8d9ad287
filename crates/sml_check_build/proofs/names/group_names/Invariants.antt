use Rattle.std.proofs.Common.{map, fold, []}
use Rattle.sml_tree.specs.Content.{item_content}
use Rattle.sml_domain.specs.Names.{distinct_more}
use Rattle.sml_check_build.specs.Numbers.{groups_in}
use Rattle.sml_check_faults.proofs.Rests.{Rest}
use Rattle.sml_check_build.proofs.names.group_names.Given as goal
use Rattle.sml_check_faults.specs.Tables.{group_name}

abbrev pub invariant-loop-item : goal.invariant-loop-item
invariant-loop-item g l =
    Rest (λ ys. fold distinct_more l.names (map group_name (groups_in (map item_content ys)))) l.items l.item-index
    (fold distinct_more [] (map group_name (groups_in (map item_content l.items))))
