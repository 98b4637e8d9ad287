use Rattle.smi_front_moved.specs.MovedLines.{gone_members_of}
use Rattle.smi_front_moved.proofs.Ranges.{lists_added}
use Rattle.smi_front_moved.proofs.told_members.add_gone_members.Goals as goal

pub loop-q-preserved : goal.loop-q-preserved
loop-q-preserved c =
    lists_added (gone_members_of c.args.moving.now) c.loop-q.q c.new.result c.args.lines.now.items c.loop-q.lines.items c.add_gone_members_of.new.lines.items
    c.loop-q.invariant c.in_ok-add_gone_members_of.ensures c.new.ensures
