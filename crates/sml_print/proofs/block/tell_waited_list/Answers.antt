use Rattle.sml_text.proofs.Writes.{told_as}
use Rattle.sml_tree.specs.Content.{waited_content}
use Rattle.sml_print.specs.Blocks.{waited_text}
use Rattle.sml_print.proofs.Tolds.{listed_more, listed_all}
use Rattle.sml_print.proofs.Tolds.{then_told}
use Rattle.sml_print.proofs.block.tell_waited_list.Goals as goal

pub loop-i-preserved : goal.loop-i-preserved
loop-i-preserved g c = (
  told_as _ _ _ _ _ _ (then_told c.loop-i.invariant.0 (then_told c.tell_comma.ensures.told c.tell_waited.ensures.told))
      (listed_more (λ x. waited_text (waited_content x)) c.args.waited.now.items c.loop-i.i c.one-item.result (rw c.deref-one-items.ensures.value at c.loop-i-test.true) (rw c.deref-one-items.ensures.value at c.one-item.is)),
  λ h. c.tell_waited.ensures.due (c.tell_comma.ensures.due (c.loop-i.invariant.1 h)),
)

pub returns-clause-told : goal.returns-clause-told
returns-clause-told g c = told_as _ _ _ _ _ _ c.loop-i.invariant.0 (listed_all waited_text waited_content c.args.waited.now.items c.loop-i.i (rw c.deref-one-items.ensures.value at c.loop-i-test.false))
