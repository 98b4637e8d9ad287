use Rattle.std.proofs.Common.{◌∙◌, ap}
use Rattle.smi_front_moved.specs.CarriedMoved.{counts_moved}
use Rattle.smi_front_moved.proofs.Ranges.{mapped_one_more}
use Rattle.smi_front_moved.proofs.counts.all_counts_moved.Goals as goal

pub loop-o-preserved : goal.loop-o-preserved
loop-o-preserved c =
    mapped_one_more (counts_moved c.args.moving.now) c.loop-o.o c.loop-o.made.items c.push.new.self.items c.counts_moved.result
    c.loop-o.invariant c.in_ok-push.ensures.items (c.counts_moved.ensures ∙ ap (counts_moved c.args.moving.now) c.new.ensures)
