use Rattle.std.proofs.Common.{◌≡◌, ◌++◌, flat_map}
use Rattle.std.specs.List.{range_with_len}
use Rattle.smi_front_moved.specs.MovedLines.{gone_members_of}
use Rattle.smi_front_moved.proofs.told_members.add_gone_members.Given as goal

-- the lines of those before were added
abbrev pub invariant-loop-q : goal.invariant-loop-q
invariant-loop-q l =
    l.lines.items ≡ l.initial.lines.items ++ flat_map (gone_members_of l.moving) (range_with_len 0 l.q)
