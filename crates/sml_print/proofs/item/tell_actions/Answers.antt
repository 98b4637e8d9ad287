use Rattle.sml_text.proofs.Writes.{told_as}
use Rattle.sml_tree.specs.Content.{action_content}
use Rattle.sml_print.specs.Items.{action_text}
use Rattle.sml_print.proofs.Tolds.{flat_more, flat_all}
use Rattle.sml_print.proofs.Tolds.{then_told}
use Rattle.sml_print.proofs.item.tell_actions.Goals as goal

pub loop-action-preserved : goal.loop-action-preserved
loop-action-preserved g c = (
  told_as _ _ _ _ _ _ (then_told c.loop-action.invariant.0 c.tell_action.ensures.told)
      (flat_more (λ x. action_text (action_content x)) c.args.actions.now.items c.loop-action.action-index c.action-item.result (rw c.deref-action-items.ensures.value at c.loop-action-test.true) (rw c.deref-action-items.ensures.value at c.action-item.is)),
  λ h. c.tell_action.ensures.due (c.loop-action.invariant.1 h),
)

pub returns-clause-told : goal.returns-clause-told
returns-clause-told g c = told_as _ _ _ _ _ _ c.loop-action.invariant.0 (flat_all action_text action_content c.args.actions.now.items c.loop-action.action-index (rw c.deref-action-items.ensures.value at c.loop-action-test.false))
