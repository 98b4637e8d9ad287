use Rattle.std.proofs.Common.{◌∙◌, ◌++◌, ap}
use Rattle.std.specs.Option.{option_to_list}
use Rattle.smi_front_moved.specs.MembersMoved.{if_new_object}
use Rattle.smi_front_moved.proofs.Ranges.{kept_more}
use Rattle.smi_front_moved.proofs.members.add_new.Goals as goal

pub loop-o-preserved : goal.loop-o-preserved
loop-o-preserved c =
    kept_more (if_new_object c.args.moving.now) c.args.declared.now c.loop-o.o-index c.o-item.result c.args.objects.now.items
    c.loop-o.objects.items c.add_if.new.objects.items c.loop-o.invariant
    (c.in_ok-add_if.ensures ∙ ap (λ y. c.loop-o.objects.items ++ option_to_list y) c.if_new_object.ensures) c.loop-o-test.true c.o-item.is
