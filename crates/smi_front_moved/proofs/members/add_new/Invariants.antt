use Rattle.std.proofs.Common.{◌≡◌, ◌++◌, take}
use Rattle.std.specs.List.{filter_map}
use Rattle.smi_front_moved.specs.MembersMoved.{if_new_object}
use Rattle.smi_front_moved.proofs.members.add_new.Given as goal

-- those of the members before were added
abbrev pub invariant-loop-o : goal.invariant-loop-o
invariant-loop-o l =
    l.objects.items ≡ l.initial.objects.items ++ filter_map (if_new_object l.moving) (take l.o-index l.declared)
