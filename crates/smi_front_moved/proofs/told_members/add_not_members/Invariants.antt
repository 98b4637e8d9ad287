use Rattle.std.proofs.Common.{◌≡◌, ◌++◌, flat_map}
use Rattle.std.specs.List.{range_with_len}
use Rattle.smi_front_moved.specs.MovedLines.{not_members_of}
use Rattle.smi_front_moved.proofs.told_members.add_not_members.Given as goal

-- the lines of those before were added
abbrev pub invariant-loop-set : goal.invariant-loop-set
invariant-loop-set l =
    l.lines.items ≡ l.initial.lines.items ++ flat_map (not_members_of l.moving) (range_with_len 0 l.set)
