use Rattle.std.proofs.Common.{◌++◌, length, map}
use Rattle.sml_tree.specs.Content.{class_content, action_content, instr_content, block_content, block_of}
use Rattle.sml_domain.specs.Trees.{instruction}
use Rattle.sml_check_build.specs.Layout.{instrs_laid, inner_blocks}
use Rattle.sml_check_faults.proofs.Rests.{Rest}
use Rattle.sml_check_build.proofs.layout.Scope.+layout.Given as goal

abbrev pub decreases-block : goal.decreases-block
decreases-block g l = goal.size-block g l

abbrev pub decreases-instr : goal.decreases-instr
decreases-instr g l = goal.size-instr g l

-- the instructions and blocks so far, and those of what is left of the block
abbrev pub invariant-block-loop-instr : goal.invariant-block-loop-instr
invariant-block-loop-instr g l =
    let n = l.self.names.now in
    let k = class_content l.self.class.now in
    let a = action_content l.self.action.now in
    record {
      instrs : Rest (λ ys. map instruction l.instrs.items ++ instrs_laid n k a (length l.blocks) (block_of (map instr_content ys))) l.block.instrs.items l.instr-index (instrs_laid n k a (length l.fn.blocks) (block_content l.block));
      blocks : Rest (λ ys. l.blocks ++ inner_blocks n k a (length l.blocks) (block_of (map instr_content ys))) l.block.instrs.items l.instr-index (l.fn.blocks ++ inner_blocks n k a (length l.fn.blocks) (block_content l.block));
    }
