use Rattle.std.proofs.Common.{◌++◌, length, map}
use Rattle.sml_tree.specs.Content.{item_content}
use Rattle.sml_check_build.specs.Numbers.{classes_in}
use Rattle.sml_check_build.specs.Layout.{rows_from, blocks_from, class_laid, class_blocks, blocks_of_class}
use Rattle.sml_check_faults.proofs.Rests.{Rest}
use Rattle.sml_check_build.proofs.classes.class_rows.Given as goal

abbrev pub invariant-loop-item : goal.invariant-loop-item
invariant-loop-item g l =
    let n = l.names in
    record {
      rows : Rest (λ ys. l.made.items ++ rows_from (class_laid n) blocks_of_class (length l.blocks) (classes_in (map item_content ys))) l.items l.item-index (rows_from (class_laid n) blocks_of_class (length l.fn.blocks) (classes_in (map item_content l.items)));
      blocks : Rest (λ ys. l.blocks ++ blocks_from (class_blocks n) blocks_of_class (length l.blocks) (classes_in (map item_content ys))) l.items l.item-index (l.fn.blocks ++ blocks_from (class_blocks n) blocks_of_class (length l.fn.blocks) (classes_in (map item_content l.items)));
    }
