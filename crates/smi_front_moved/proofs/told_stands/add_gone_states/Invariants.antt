use Rattle.std.proofs.Common.{◌≡◌, ◌++◌}
use Rattle.std.specs.List.{filter_map, range_with_len}
use Rattle.smi_front_moved.specs.MovedLines.{gone_state}
use Rattle.smi_front_moved.proofs.told_stands.add_gone_states.Given as goal

-- the lines of those before were added
abbrev pub invariant-loop-p : goal.invariant-loop-p
invariant-loop-p l =
    l.lines.items ≡ l.initial.lines.items ++ filter_map (gone_state l.moving) (range_with_len 0 l.p)
