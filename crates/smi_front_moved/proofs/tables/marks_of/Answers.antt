-- One object more, from none to all.
use Rattle.std.proofs.Common.{◌∙◌, ◌||◌, ap, false, get_or, nat_eq}
use Rattle.smi_front_moved.proofs.Tabled.{one_mark_more}
use Rattle.smi_front_moved.proofs.tables.marks_of.Goals as goal

pub loop-o-preserved : goal.loop-o-preserved
loop-o-preserved c =
    let marks = c.loop-o.marks.items in
    one_mark_more c.args.count c.args.objects.now c.loop-o.o-index c.o-item.result marks c.mark.new.marks.items c.loop-o.invariant
    c.mark.ensures.count (λ k lt. c.mark.ensures.each k lt ∙ ap (λ y. get_or marks k false || nat_eq k y) c.get.ensures)
    c.loop-o-test.true c.o-item.is
