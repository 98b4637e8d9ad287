use Rattle.std.proofs.Common.{◌≡◌, ◌++◌}
use Rattle.std.specs.List.{filter_map, range_with_len}
use Rattle.smi_front_moved.specs.MovedLines.{new_object}
use Rattle.smi_front_moved.proofs.told.add_new_objects.Given as goal

-- the lines of those before were added
abbrev pub invariant-loop-o : goal.invariant-loop-o
invariant-loop-o l =
    l.lines.items ≡ l.initial.lines.items ++ filter_map (new_object l.moving) (range_with_len 0 l.o)
