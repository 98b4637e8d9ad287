use Rattle.std.proofs.Common.{◌∙◌, ap}
use Rattle.smi_front_moved.specs.MembersMoved.{members_moved}
use Rattle.smi_front_moved.proofs.Ranges.{mapped_one_more}
use Rattle.smi_front_moved.proofs.members.all_members_moved.Goals as goal

pub loop-set-preserved : goal.loop-set-preserved
loop-set-preserved c =
    mapped_one_more (members_moved c.args.moving.now) c.loop-set.set c.loop-set.made.items c.push.new.self.items c.in_ok-set_members.field-0
    c.loop-set.invariant c.in_ok-push.ensures.items (c.in_ok-set_members.ensures ∙ ap (members_moved c.args.moving.now) c.new.ensures)
