use Rattle.std.proofs.Common.{◌≡◌, ap, arith, map}
use Rattle.sml_tree.specs.Content.{instr_content, block_content, block_of}
use Rattle.sml_tree.specs.Syntax.{block_depth}
use Rattle.sml_tree.proofs.Depths.{depth_from, depth_from-more, depth_from-all, deepest_more}
use Rattle.sml_tree.proofs.Sizes.{item_smaller}
use Rattle.sml_tree.proofs.block.+depth.Goals as goal

pub Block::depth-depth-requires : goal.Block::depth-depth-requires
Block::depth-depth-requires g t c = λ κs within. (omega (arith, item_smaller c.args.self.now _ c.loop-instr.instr-index c.instr-item.result c.deref-instr-items.ensures.value c.loop-instr-test.true c.instr-item.is, c.decreases), within)

pub Block::depth-loop-instr-init : goal.Block::depth-loop-instr-init
Block::depth-loop-instr-init g t c =
    let all : depth_from instr_content c.deref-instr-items.result.now 0 ≡ block_depth (block_content c.args.self.now) =
    ap (λ is. block_depth (block_of (map instr_content is))) c.deref-instr-items.ensures.value in
    omega (arith, all)

pub Block::depth-loop-instr-preserved : goal.Block::depth-loop-instr-preserved
Block::depth-loop-instr-preserved g t c =
    let more = depth_from-more instr_content _ _ _ c.loop-instr-test.true c.instr-item.is in
    deepest_more _ _ _ _ _ _ _ _ c.max-deepest.ensures c.depth.ensures more c.loop-instr.invariant

pub Block::depth-returns : goal.Block::depth-returns
Block::depth-returns g t c =
    let all = depth_from-all instr_content _ _ c.loop-instr-test.false in
    omega (arith, all, c.loop-instr.invariant)
