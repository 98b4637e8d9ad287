use Rattle.std.proofs.Common.{◌≡◌, map}
use Rattle.std.specs.List.{range_with_len}
use Rattle.smi_front_moved.specs.MembersMoved.{members_moved}
use Rattle.smi_front_moved.proofs.members.all_members_moved.Given as goal

-- those of the sets before were made
abbrev pub invariant-loop-set : goal.invariant-loop-set
invariant-loop-set l = l.made.items ≡ map (members_moved l.moving) (range_with_len 0 l.set)
