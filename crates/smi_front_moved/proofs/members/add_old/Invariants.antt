use Rattle.std.proofs.Common.{◌≡◌, ◌++◌, take}
use Rattle.std.specs.List.{filter_map}
use Rattle.smi_front_moved.specs.MembersMoved.{member_as}
use Rattle.smi_front_moved.proofs.members.add_old.Given as goal

-- those of the members before were added
abbrev pub invariant-loop-p : goal.invariant-loop-p
invariant-loop-p l =
    l.objects.items ≡ l.initial.objects.items ++ filter_map (member_as l.moving l.set) (take l.p-index l.before)
