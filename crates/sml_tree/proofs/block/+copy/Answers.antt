use Rattle.std.proofs.Common.{◌∙◌, ap, map, arith}
use Rattle.sml_tree.specs.Content.{instr_content, block_of}
use Rattle.sml_tree.proofs.Blocks.{If_same}
use Rattle.sml_tree.proofs.Mapped.{map_more, map_all}
use Rattle.sml_tree.proofs.Sizes.{item_smaller}
use Rattle.sml_tree.proofs.block.+copy.Goals as goal

pub Block::copy_by-copy_by-requires : goal.Block::copy_by-copy_by-requires
Block::copy_by-copy_by-requires g t c = λ κs within. (omega (arith, item_smaller c.args.self.now _ c.loop-instr.instr-index c.instr-item.result c.deref-instr-items.ensures.value c.loop-instr-test.true c.instr-item.is, c.decreases), within)

pub Block::copy_by-loop-instr-init : goal.Block::copy_by-loop-instr-init
Block::copy_by-loop-instr-init g t c = ap (map instr_content) c.new-instrs.ensures.items

pub Block::copy_by-loop-instr-preserved : goal.Block::copy_by-loop-instr-preserved
Block::copy_by-loop-instr-preserved g t c =
    let added = c.in_ok-add.ensures in
    rw added.2 (map_more instr_content instr_content _ _ _ _ _ c.loop-instr.invariant c.loop-instr-test.true c.instr-item.is (rw added.1 at c.copy_by.ensures))

pub Block::copy_by-returns : goal.Block::copy_by-returns
Block::copy_by-returns g t c = ap block_of (map_all instr_content instr_content _ _ _ c.loop-instr.invariant c.loop-instr-test.false ∙ ap (map instr_content) c.deref-instr-items.ensures.value)

pub Instr::copy_by-returns-in-If : goal.Instr::copy_by-returns-in-If
Instr::copy_by-returns-in-If g t c = If_same _ _ _ _ _ _ _ _ c.in-If.is c.copy_by.ensures c.copy_by-in-If.ensures c.copy_by-in-If-2.ensures c.branch-copy_by.ensures
