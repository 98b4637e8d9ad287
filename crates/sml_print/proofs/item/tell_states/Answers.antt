use Rattle.sml_text.proofs.Writes.{told_as}
use Rattle.sml_tree.specs.Content.{state_content}
use Rattle.sml_print.specs.Items.{state_text}
use Rattle.sml_print.proofs.Tolds.{flat_more, flat_all}
use Rattle.sml_print.proofs.Tolds.{then_told}
use Rattle.sml_print.proofs.item.tell_states.Goals as goal

pub loop-state-preserved : goal.loop-state-preserved
loop-state-preserved g c = (
  told_as _ _ _ _ _ _ (then_told c.loop-state.invariant.0 c.tell_state.ensures.told)
      (flat_more (λ x. state_text (state_content x)) c.args.states.now.items c.loop-state.state-index c.state-item.result (rw c.deref-state-items.ensures.value at c.loop-state-test.true) (rw c.deref-state-items.ensures.value at c.state-item.is)),
  λ h. c.tell_state.ensures.due (c.loop-state.invariant.1 h),
)

pub returns-clause-told : goal.returns-clause-told
returns-clause-told g c = told_as _ _ _ _ _ _ c.loop-state.invariant.0 (flat_all state_text state_content c.args.states.now.items c.loop-state.state-index (rw c.deref-state-items.ensures.value at c.loop-state-test.false))
