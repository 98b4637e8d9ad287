use Rattle.std.proofs.Common.{◌∙◌, ap}
use Rattle.smi_front_moved.specs.StandsMoved.{stand_moved}
use Rattle.smi_front_moved.proofs.Ranges.{mapped_one_more}
use Rattle.smi_front_moved.proofs.stands.stands_moved.Goals as goal

pub loop-o-preserved : goal.loop-o-preserved
loop-o-preserved c =
    mapped_one_more (stand_moved c.args.moving.now) c.loop-o.o c.loop-o.made.items c.push.new.self.items c.in_ok-stand_moved.field-0
    c.loop-o.invariant c.in_ok-push.ensures.items (c.in_ok-stand_moved.ensures ∙ ap (stand_moved c.args.moving.now) c.new.ensures)
