use Rattle.sml_text.proofs.Writes.{told_as}
use Rattle.sml_tree.specs.Content.{passed_content}
use Rattle.sml_print.specs.Words.{passed_text}
use Rattle.sml_print.proofs.Tolds.{listed_more, listed_all}
use Rattle.sml_print.proofs.Tolds.{then_told}
use Rattle.sml_print.proofs.word.tell_passed_list.Goals as goal

pub loop-i-preserved : goal.loop-i-preserved
loop-i-preserved g c = (
  told_as _ _ _ _ _ _ (then_told c.loop-i.invariant.0 (then_told c.tell_comma.ensures.told c.tell_passed.ensures.told))
      (listed_more (λ x. passed_text (passed_content x)) c.args.args.now.items c.loop-i.i c.passed-item.result (rw c.deref-passed-items.ensures.value at c.loop-i-test.true) (rw c.deref-passed-items.ensures.value at c.passed-item.is)),
  λ h. c.tell_passed.ensures.due (c.tell_comma.ensures.due (c.loop-i.invariant.1 h)),
)

pub returns-clause-told : goal.returns-clause-told
returns-clause-told g c = told_as _ _ _ _ _ _ c.loop-i.invariant.0 (listed_all passed_text passed_content c.args.args.now.items c.loop-i.i (rw c.deref-passed-items.ensures.value at c.loop-i-test.false))
