use Rattle.std.proofs.Common.{◌≡◌, subst, arith, ◌<◌, List, length, Some, ◌+◌}
use Rattle.std.specs.Prelude.{slice_get}
use Rattle.smi_mail.specs.Mails.{OperatorSide}
use Rattle.smi_mail.proofs.Ordering.{begins_ordered, more_ordered, ends_ordered}
use Rattle.smi_mail.proofs.order.in_order.Goals as goal

pub loop-place-init : goal.loop-place-init
loop-place-init g c = begins_ordered _ c.args.ends.items c.requires

pub loop-place-preserved : goal.loop-place-preserved
loop-place-preserved g c =
    let i = c.loop-place.invariant in
    let now : c.deref.result.now ≡ c.loop-place.ends.items = c.deref.ensures.value in
    let found = c.place_of-found in
    more_ordered c.args.ends.items c.loop-place.ends.items c.swap.new.self.items c.loop-place.place found.result i
    (omega (arith, c.loop-place-test.true, c.len-place-end.ensures, c.args.ends.ok.0))
    found.ensures.within.0
    (subst (λ (l : List OperatorSide). found.result < length l) now found.ensures.within.1)
    (subst (λ (l : List OperatorSide). (e : OperatorSide) → slice_get l found.result ≡ Some e → e.session ≡ c.loop-place.place + 1) now found.ensures.session)
    (omega (arith, c.swap.ensures.len, c.loop-place.ends.ok.0, c.swap.new.self.ok.0))
    c.swap.ensures.by_index

pub returns-clause-order : goal.returns-clause-order
returns-clause-order g c =
    ends_ordered c.args.ends.items c.loop-place.ends.items c.loop-place.place c.loop-place.invariant (omega (arith, c.loop-place-test.false, c.len-place-end.ensures, c.args.ends.ok.0))
