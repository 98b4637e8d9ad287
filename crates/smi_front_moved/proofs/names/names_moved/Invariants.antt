use Rattle.std.proofs.Common.{◌≡◌}
use Rattle.std.specs.List.{filter_map, range_with_len}
use Rattle.smi_front_moved.specs.CarriedMoved.{name_moved}
use Rattle.smi_front_moved.proofs.names.names_moved.Given as goal

-- those of the places before were made
abbrev pub invariant-loop-place : goal.invariant-loop-place
invariant-loop-place l = l.names.items ≡ filter_map (name_moved l.moving) (range_with_len 0 l.place)
