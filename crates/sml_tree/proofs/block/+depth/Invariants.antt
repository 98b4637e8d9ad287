use Rattle.std.proofs.Common.{◌≡◌, ◌-◌, ◌^◌, max, min}
use Rattle.sml_tree.proofs.Depths.{depth_from}
use Rattle.sml_tree.specs.Content.{instr_content, block_content}
use Rattle.sml_tree.specs.Syntax.{block_depth}
use Rattle.sml_tree.proofs.block.+depth.Given as goal

-- the deepest of those seen and of those left is that of all
abbrev pub invariant-Block::depth-loop-instr : goal.invariant-Block::depth-loop-instr
invariant-Block::depth-loop-instr g l =
    max l.deepest (min (depth_from instr_content l.instr-items l.instr-index) (2 ^ 32 - 1))
    ≡ min (block_depth (block_content l.self)) (2 ^ 32 - 1)
