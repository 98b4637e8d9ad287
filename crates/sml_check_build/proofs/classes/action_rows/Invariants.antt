use Rattle.std.proofs.Common.{◌++◌, length, map}
use Rattle.sml_tree.specs.Content.{action_content, class_content}
use Rattle.sml_check_build.specs.Layout.{rows_from, blocks_from, action_laid, action_blocks, blocks_of_action}
use Rattle.sml_check_faults.proofs.Rests.{Rest}
use Rattle.sml_check_build.proofs.classes.action_rows.Given as goal

abbrev pub invariant-loop-action : goal.invariant-loop-action
invariant-loop-action g l =
    let n = l.names in
    let k = class_content l.class in
    record {
      rows : Rest (λ ys. l.made.items ++ rows_from (action_laid n k) blocks_of_action (length l.blocks) (map action_content ys)) l.actions.items l.action-index (rows_from (action_laid n k) blocks_of_action (length l.fn.blocks) (map action_content l.actions.items));
      blocks : Rest (λ ys. l.blocks ++ blocks_from (action_blocks n k) blocks_of_action (length l.blocks) (map action_content ys)) l.actions.items l.action-index (l.fn.blocks ++ blocks_from (action_blocks n k) blocks_of_action (length l.fn.blocks) (map action_content l.actions.items));
    }
