use Rattle.std.proofs.Common.{◌≡◌, ◌++◌}
use Rattle.std.specs.List.{filter_map, range_with_len}
use Rattle.smi_front_moved.specs.MovedLines.{forgot_name}
use Rattle.smi_front_moved.proofs.told.add_forgot_names.Given as goal

-- the lines of those before were added
abbrev pub invariant-loop-place : goal.invariant-loop-place
invariant-loop-place l =
    l.lines.items ≡ l.initial.lines.items ++ filter_map (forgot_name l.moving) (range_with_len 0 l.place)
