use Rattle.sml_domain.specs.Lookups.{members_at}
use Rattle.smi_front_moved.specs.MembersMoved.{members_moved}
use Rattle.smi_front_moved.specs.MovedLines.{not_member}
use Rattle.smi_front_moved.proofs.Ranges.{kept_read}
use Rattle.smi_front_moved.proofs.told_members.add_not_from.Goals as goal

pub loop-o-preserved : goal.loop-o-preserved
loop-o-preserved c =
    let m = c.args.moving.now in
    kept_read (not_member m c.args.set (members_moved m c.args.set)) c.declared_members-o-items.result.now (members_at m.new c.args.set) c.loop-o.o-index c.o-item.result
    c.args.lines.now.items c.loop-o.lines.items c.add_not_member.new.lines.items c.declared_members-o-items.ensures.is c.loop-o.invariant
    c.in_ok-add_not_member.ensures c.loop-o-test.true c.o-item.is
