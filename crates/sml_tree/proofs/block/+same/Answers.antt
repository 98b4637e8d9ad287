use Rattle.std.proofs.Common.{ap, arith, refl}
use Rattle.sml_tree.specs.Content.{instr_content, block_of}
use Rattle.sml_tree.proofs.Blocks.{block_of-injective}
use Rattle.sml_tree.proofs.Mapped.{compared_none, compared_more, compared_all, compared_differ, lengths_same}
use Rattle.sml_tree.proofs.Sizes.{item_smaller}
use Rattle.sml_tree.proofs.block.+same.Goals as goal

pub Block::same-returns-then-len : goal.Block::same-returns-then-len
Block::same-returns-then-len g t c = (
  λ h. cc,
  λ h.
      let long = lengths_same instr_content instr_content _ _ (block_of-injective _ _ h) in
      absurd (c.if-len.true (omega (arith, long, c.len.ensures, c.len-2.ensures, c.args.self.now.instrs.ok.0, c.args.other.now.instrs.ok.0))),
)

pub Block::same-returns-then-not-same : goal.Block::same-returns-then-not-same
Block::same-returns-then-not-same g t c =
    let items = c.deref-instr-items.ensures.value in
    let within = rw items at c.loop-i-test.true in
    let is = rw items at c.instr-item.is in (
      λ h. cc,
      λ h. absurd (compared_differ instr_content instr_content _ _ _ _ _ c.loop-i.invariant within is c.index.ensures
          (λ e. let same = c.same.ensures.1 e in cc) (block_of-injective _ _ h)),
    )

pub Block::same-same-requires : goal.Block::same-same-requires
Block::same-same-requires g t c = λ κs within. (omega (arith, item_smaller c.args.self.now _ c.loop-i.i c.instr-item.result c.deref-instr-items.ensures.value c.loop-i-test.true c.instr-item.is, c.decreases), within)

pub Block::same-loop-i-init : goal.Block::same-loop-i-init
Block::same-loop-i-init g t c =
    compared_none instr_content instr_content _ _ (omega (arith, c.if-len.false, c.len.ensures, c.len-2.ensures, c.args.self.now.instrs.ok.0, c.args.other.now.instrs.ok.0))

pub Block::same-loop-i-preserved : goal.Block::same-loop-i-preserved
Block::same-loop-i-preserved g t c =
    let items = c.deref-instr-items.ensures.value in
    let within = rw items at c.loop-i-test.true in
    let is = rw items at c.instr-item.is in
    compared_more instr_content instr_content _ _ _ _ _ c.loop-i.invariant within is c.index.ensures (c.same.ensures.0 c.if-not-same.false)

pub Block::same-returns : goal.Block::same-returns
Block::same-returns g t c =
    let over = rw c.deref-instr-items.ensures.value at c.loop-i-test.false in
    (λ _. ap block_of (compared_all instr_content instr_content _ _ _ c.loop-i.invariant over), λ _. refl)
