use Rattle.std.proofs.Common.{rules, ap, sym}
use Rattle.sml_text.proofs.Writes.{told_as}
use Rattle.sml_tree.specs.Content.{cond_content}
use Rattle.sml_print.specs.Conditions.{bracketed, cond_text}
use Rattle.sml_print.proofs.Tolds.{then_told}
use Rattle.sml_print.proofs.condition.+conditions.Goals as goal

pub tell_operand-returns-then-brackets-clause-told : goal.tell_operand-returns-then-brackets-clause-told
tell_operand-returns-then-brackets-clause-told g t c =
    told_as _ _ _ _ _ _ (then_told c.tell.ensures.told (then_told c.tell_cond.ensures.told c.tell-then-brackets.ensures.told)) (ap (λ b. bracketed b (cond_text (cond_content c.args.cond.now))) (sym c.if-brackets.true))

pub tell_cond-returns-in-And-clause-told : goal.tell_cond-returns-in-And-clause-told
tell_cond-returns-in-And-clause-told g t c =
    told_as _ _ _ _ _ _ (then_told c.tell_operand.ensures.told (then_told c.tell.ensures.told c.tell_operand-in-And.ensures.told)) (search rules)

pub tell_cond-returns-in-Or-clause-told : goal.tell_cond-returns-in-Or-clause-told
tell_cond-returns-in-Or-clause-told g t c =
    told_as _ _ _ _ _ _ (then_told c.tell_cond.ensures.told (then_told c.tell-in-Or.ensures.told c.tell_operand-in-Or.ensures.told)) (search rules)

pub tell_cond-returns-in-Not-clause-told : goal.tell_cond-returns-in-Not-clause-told
tell_cond-returns-in-Not-clause-told g t c =
    told_as _ _ _ _ _ _ (then_told c.tell-in-Not.ensures.told c.tell_operand-in-Not.ensures.told) (search rules)
