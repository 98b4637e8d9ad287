use Rattle.std.proofs.Common.{refl}
use Rattle.sml_tree.proofs.Mapped.{compared_more, compared_all, compared_differ}
use Rattle.sml_tree.proofs.lists.same_list.Goals as goal

pub returns-then-not-is_same : goal.returns-then-not-is_same
returns-then-not-is_same g c =
    let items = c.deref-part-items.ensures.value in
    let within = rw items at c.loop-i-test.true in
    let is = rw items at c.part-item.is in (
      λ h. cc,
      λ h. absurd (compared_differ g.T.Part.said g.T.Part.other_said _ _ _ _ _ c.loop-i.invariant within is c.index.ensures (λ e. let same = c.is_same.ensures.1 e in cc) h),
    )

pub loop-i-preserved : goal.loop-i-preserved
loop-i-preserved g c =
    let items = c.deref-part-items.ensures.value in
    let within = rw items at c.loop-i-test.true in
    let is = rw items at c.part-item.is in
    compared_more g.T.Part.said g.T.Part.other_said _ _ _ _ _ c.loop-i.invariant within is c.index.ensures (c.is_same.ensures.0 c.if-not-is_same.false)

pub returns : goal.returns
returns g c =
    let over = rw c.deref-part-items.ensures.value at c.loop-i-test.false in
    (λ _. compared_all g.T.Part.said g.T.Part.other_said _ _ _ c.loop-i.invariant over, λ _. refl)
