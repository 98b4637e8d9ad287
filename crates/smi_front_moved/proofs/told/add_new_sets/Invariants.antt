use Rattle.std.proofs.Common.{◌≡◌, ◌++◌}
use Rattle.std.specs.List.{filter_map, range_with_len}
use Rattle.smi_front_moved.specs.MovedLines.{new_set}
use Rattle.smi_front_moved.proofs.told.add_new_sets.Given as goal

-- the lines of those before were added
abbrev pub invariant-loop-set : goal.invariant-loop-set
invariant-loop-set l =
    l.lines.items ≡ l.initial.lines.items ++ filter_map (new_set l.moving) (range_with_len 0 l.set)
