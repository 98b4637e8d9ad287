use Rattle.std.proofs.Common.{◌≡◌, ◌++◌, take}
use Rattle.std.specs.List.{filter_map}
use Rattle.smi_front_moved.specs.MembersMoved.{members_before}
use Rattle.smi_front_moved.specs.MovedLines.{gone_member_from}
use Rattle.smi_front_moved.proofs.told_members.add_gone_from.Given as goal

-- the lines of those before were added
abbrev pub invariant-loop-p : goal.invariant-loop-p
invariant-loop-p l =
    l.lines.items ≡ l.initial.lines.items ++ filter_map (gone_member_from l.moving l.q l.set) (take l.p-index (members_before l.moving l.q))
