use Rattle.smi_front_moved.specs.MovedLines.{new_set}
use Rattle.smi_front_moved.proofs.Ranges.{kept_added}
use Rattle.smi_front_moved.proofs.told.add_new_sets.Goals as goal

pub loop-set-preserved : goal.loop-set-preserved
loop-set-preserved c =
    kept_added (new_set c.args.moving.now) c.loop-set.set c.new.result c.args.lines.now.items c.loop-set.lines.items c.add_new_set.new.lines.items
    c.loop-set.invariant c.in_ok-add_new_set.ensures c.new.ensures
