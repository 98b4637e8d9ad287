use Rattle.sml_text.proofs.Writes.{told_as}
use Rattle.sml_tree.specs.Content.{item_content}
use Rattle.sml_print.specs.Items.{item_text}
use Rattle.sml_print.proofs.Tolds.{flat_more, flat_all}
use Rattle.sml_print.proofs.Tolds.{then_told}
use Rattle.sml_print.proofs.item.tell_items.Goals as goal

pub loop-item-preserved : goal.loop-item-preserved
loop-item-preserved g c = (
  told_as _ _ _ _ _ _ (then_told c.loop-item.invariant.0 c.tell_item.ensures.told)
      (flat_more (λ x. item_text (item_content x)) c.args.items.now.items c.loop-item.item-index c.item-item.result (rw c.deref-item-items.ensures.value at c.loop-item-test.true) (rw c.deref-item-items.ensures.value at c.item-item.is)),
  λ h. c.tell_item.ensures.due (c.loop-item.invariant.1 h),
)

pub returns-clause-told : goal.returns-clause-told
returns-clause-told g c = told_as _ _ _ _ _ _ c.loop-item.invariant.0 (flat_all item_text item_content c.args.items.now.items c.loop-item.item-index (rw c.deref-item-items.ensures.value at c.loop-item-test.false))
