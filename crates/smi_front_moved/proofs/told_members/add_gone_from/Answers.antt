use Rattle.smi_front_moved.specs.MembersMoved.{members_before}
use Rattle.smi_front_moved.specs.MovedLines.{gone_member_from}
use Rattle.smi_front_moved.proofs.Ranges.{kept_read}
use Rattle.smi_front_moved.proofs.told_members.add_gone_from.Goals as goal

pub loop-p-preserved : goal.loop-p-preserved
loop-p-preserved c =
    let m = c.args.moving.now in
    kept_read (gone_member_from m c.args.q c.args.set) c.members_before-p-items.result.now (members_before m c.args.q) c.loop-p.p-index c.p-item.result
    c.args.lines.now.items c.loop-p.lines.items c.add_gone_member.new.lines.items c.members_before-p-items.ensures c.loop-p.invariant
    c.in_ok-add_gone_member.ensures c.loop-p-test.true c.p-item.is
