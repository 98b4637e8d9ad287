use Rattle.std.proofs.Common.{map}
use Rattle.sml_tree.specs.Content.{file_content, item_content}
use Rattle.sml_check_build.specs.Numbers.{groups_in}
use Rattle.sml_check_build.specs.Rows.{group_row}
use Rattle.sml_check_build.proofs.Gathered.{Gathers}
use Rattle.sml_check_build.proofs.items.group_rows.Given as goal

abbrev pub invariant-loop-item : goal.invariant-loop-item
invariant-loop-item g l = Gathers (λ ys. map (group_row (file_content l.tables.file.now) l.names)
    (groups_in (map item_content ys))) l.made.items l.items l.item-index
    (map (group_row (file_content l.tables.file.now) l.names) (groups_in (map item_content l.items)))
