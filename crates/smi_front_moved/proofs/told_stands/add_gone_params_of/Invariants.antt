use Rattle.std.proofs.Common.{◌≡◌, ◌++◌}
use Rattle.std.specs.List.{filter_map, range_with_len}
use Rattle.smi_front_moved.specs.MovedLines.{gone_param}
use Rattle.smi_front_moved.proofs.told_stands.add_gone_params_of.Given as goal

-- the lines of those before were added
abbrev pub invariant-loop-place : goal.invariant-loop-place
invariant-loop-place l =
    l.lines.items ≡ l.initial.lines.items ++ filter_map (gone_param l.moving l.p) (range_with_len 0 l.place)
