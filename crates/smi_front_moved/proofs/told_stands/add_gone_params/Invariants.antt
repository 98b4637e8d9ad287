use Rattle.std.proofs.Common.{◌≡◌, ◌++◌, flat_map}
use Rattle.std.specs.List.{range_with_len}
use Rattle.smi_front_moved.specs.MovedLines.{gone_params_of}
use Rattle.smi_front_moved.proofs.told_stands.add_gone_params.Given as goal

-- the lines of those before were added
abbrev pub invariant-loop-p : goal.invariant-loop-p
invariant-loop-p l =
    l.lines.items ≡ l.initial.lines.items ++ flat_map (gone_params_of l.moving) (range_with_len 0 l.p)
