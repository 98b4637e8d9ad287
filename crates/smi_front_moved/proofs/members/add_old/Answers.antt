use Rattle.std.proofs.Common.{◌∙◌, ◌++◌, ap}
use Rattle.std.specs.Option.{option_to_list}
use Rattle.smi_front_moved.specs.MembersMoved.{member_as}
use Rattle.smi_front_moved.proofs.Ranges.{kept_more}
use Rattle.smi_front_moved.proofs.members.add_old.Goals as goal

pub loop-p-preserved : goal.loop-p-preserved
loop-p-preserved c =
    kept_more (member_as c.args.moving.now c.args.set) c.args.before.now c.loop-p.p-index c.p-item.result c.args.objects.now.items
    c.loop-p.objects.items c.add_if.new.objects.items c.loop-p.invariant
    (c.in_ok-add_if.ensures ∙ ap (λ y. c.loop-p.objects.items ++ option_to_list y) c.member_as.ensures) c.loop-p-test.true c.p-item.is
