use Rattle.sml_text.proofs.Writes.{told_as}
use Rattle.sml_tree.specs.Content.{action_param_content}
use Rattle.sml_print.specs.Words.{action_param_text}
use Rattle.sml_print.proofs.Tolds.{listed_more, listed_all}
use Rattle.sml_print.proofs.Tolds.{then_told}
use Rattle.sml_print.proofs.word.tell_action_param_list.Goals as goal

pub loop-i-preserved : goal.loop-i-preserved
loop-i-preserved g c = (
  told_as _ _ _ _ _ _ (then_told c.loop-i.invariant.0 (then_told c.tell_comma.ensures.told c.tell_action_param.ensures.told))
      (listed_more (λ x. action_param_text (action_param_content x)) c.args.params.now.items c.loop-i.i c.param-item.result (rw c.deref-param-items.ensures.value at c.loop-i-test.true) (rw c.deref-param-items.ensures.value at c.param-item.is)),
  λ h. c.tell_action_param.ensures.due (c.tell_comma.ensures.due (c.loop-i.invariant.1 h)),
)

pub returns-clause-told : goal.returns-clause-told
returns-clause-told g c = told_as _ _ _ _ _ _ c.loop-i.invariant.0 (listed_all action_param_text action_param_content c.args.params.now.items c.loop-i.i (rw c.deref-param-items.ensures.value at c.loop-i-test.false))
