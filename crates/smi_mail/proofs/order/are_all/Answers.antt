use Rattle.std.proofs.Common.{◌≡◌, ◌≤◌, ◌+◌, sym, subst, arith, ⊎_elim}
use Rattle.smi_mail.specs.Drains.{HasSession}
use Rattle.smi_mail.proofs.Ordering.{at_or_behind}
use Rattle.smi_mail.proofs.order.are_all.Goals as goal

pub loop-place-preserved : goal.loop-place-preserved
loop-place-preserved g c = λ k lt. ⊎_elim
    (λ (is : c.loop-place.place ≡ k). subst (λ j. HasSession (j + 1) c.args.ends.now) is (c.has_session.ensures.0 c.if-not-has_session.false))
    (λ (less : k + 1 ≤ c.loop-place.place). c.loop-place.invariant k (omega (arith, less)))
    (at_or_behind k c.loop-place.place (omega (arith, lt)))
