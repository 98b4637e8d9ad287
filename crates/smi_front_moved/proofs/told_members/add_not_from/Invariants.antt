use Rattle.std.proofs.Common.{◌≡◌, ◌++◌, take}
use Rattle.std.specs.List.{filter_map}
use Rattle.sml_domain.specs.Lookups.{members_at}
use Rattle.smi_front_moved.specs.MembersMoved.{members_moved}
use Rattle.smi_front_moved.specs.MovedLines.{not_member}
use Rattle.smi_front_moved.proofs.told_members.add_not_from.Given as goal

-- the lines of those before were added
abbrev pub invariant-loop-o : goal.invariant-loop-o
invariant-loop-o l =
    l.lines.items ≡ l.initial.lines.items ++ filter_map (not_member l.moving l.set (members_moved l.moving l.set)) (take l.o-index (members_at l.moving.new l.set))
