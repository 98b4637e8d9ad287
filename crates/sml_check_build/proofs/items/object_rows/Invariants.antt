use Rattle.std.proofs.Common.{map}
use Rattle.sml_tree.specs.Content.{item_content}
use Rattle.sml_check_build.specs.Numbers.{objects_in}
use Rattle.sml_check_build.specs.Rows.{object_row}
use Rattle.sml_check_build.proofs.Gathered.{Gathers}
use Rattle.sml_check_build.proofs.items.object_rows.Given as goal

abbrev pub invariant-loop-item : goal.invariant-loop-item
invariant-loop-item g l = Gathers (λ ys. map (object_row l.names) (objects_in (map item_content ys))) l.made.items l.items l.item-index (map (object_row l.names) (objects_in (map item_content l.items)))
