use Rattle.std.proofs.Common.{◌++◌, length, map}
use Rattle.sml_tree.specs.Content.{state_content, class_content}
use Rattle.sml_check_build.specs.Layout.{rows_from, blocks_from, state_laid, state_blocks, blocks_of_state}
use Rattle.sml_check_faults.proofs.Rests.{Rest}
use Rattle.sml_check_build.proofs.classes.state_rows.Given as goal

abbrev pub invariant-loop-state : goal.invariant-loop-state
invariant-loop-state g l =
    let n = l.names in
    let k = class_content l.class in
    record {
      rows : Rest (λ ys. l.made.items ++ rows_from (state_laid n k) blocks_of_state (length l.blocks) (map state_content ys)) l.class.states.items l.state-index (rows_from (state_laid n k) blocks_of_state (length l.fn.blocks) (map state_content l.class.states.items));
      blocks : Rest (λ ys. l.blocks ++ blocks_from (state_blocks n k) blocks_of_state (length l.blocks) (map state_content ys)) l.class.states.items l.state-index (l.fn.blocks ++ blocks_from (state_blocks n k) blocks_of_state (length l.fn.blocks) (map state_content l.class.states.items));
    }
