use Rattle.sml_tree.proofs.Mapped.{map_more, map_all}
use Rattle.sml_tree.proofs.lists.copy_list.Goals as goal

pub loop-part-preserved : goal.loop-part-preserved
loop-part-preserved g c =
    let items = c.deref-part-items.ensures.value in
    let within = rw items at c.loop-part-test.true in
    let is = rw items at c.part-item.is in
    let added = c.in_ok-add.ensures in
    rw added.2 (map_more g.T.Part.other_said g.T.Part.said _ _ _ _ _ c.loop-part.invariant within is (rw added.1 at c.copy_of.ensures))

pub returns : goal.returns
returns g c =
    let over = rw c.deref-part-items.ensures.value at c.loop-part-test.false in
    map_all g.T.Part.other_said g.T.Part.said _ _ _ c.loop-part.invariant over
