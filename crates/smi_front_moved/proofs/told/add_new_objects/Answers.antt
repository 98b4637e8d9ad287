use Rattle.smi_front_moved.specs.MovedLines.{new_object}
use Rattle.smi_front_moved.proofs.Ranges.{kept_added}
use Rattle.smi_front_moved.proofs.told.add_new_objects.Goals as goal

pub loop-o-preserved : goal.loop-o-preserved
loop-o-preserved c =
    kept_added (new_object c.args.moving.now) c.loop-o.o c.new.result c.args.lines.now.items c.loop-o.lines.items c.add_new_object.new.lines.items
    c.loop-o.invariant c.in_ok-add_new_object.ensures c.new.ensures
