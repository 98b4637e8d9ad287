use Rattle.smi_front_moved.specs.MovedLines.{not_members_of}
use Rattle.smi_front_moved.proofs.Ranges.{lists_added}
use Rattle.smi_front_moved.proofs.told_members.add_not_members.Goals as goal

pub loop-set-preserved : goal.loop-set-preserved
loop-set-preserved c =
    lists_added (not_members_of c.args.moving.now) c.loop-set.set c.new.result c.args.lines.now.items c.loop-set.lines.items c.add_not_members_of.new.lines.items
    c.loop-set.invariant c.in_ok-add_not_members_of.ensures c.new.ensures
