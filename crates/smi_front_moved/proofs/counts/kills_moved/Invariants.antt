use Rattle.std.proofs.Common.{◌≡◌}
use Rattle.std.specs.List.{filter_map, range_with_len}
use Rattle.smi_front_moved.specs.CarriedMoved.{kill_moved}
use Rattle.smi_front_moved.proofs.counts.kills_moved.Given as goal

-- those of the objects before were made
abbrev pub invariant-loop-o : goal.invariant-loop-o
invariant-loop-o l = l.kills.items ≡ filter_map (kill_moved l.moving) (range_with_len 0 l.o)
