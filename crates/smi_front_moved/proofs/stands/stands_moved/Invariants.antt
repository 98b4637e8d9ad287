use Rattle.std.proofs.Common.{◌≡◌, map}
use Rattle.std.specs.List.{range_with_len}
use Rattle.smi_front_moved.specs.StandsMoved.{stand_moved}
use Rattle.smi_front_moved.proofs.stands.stands_moved.Given as goal

-- those of the objects before were made
abbrev pub invariant-loop-o : goal.invariant-loop-o
invariant-loop-o l = l.made.items ≡ map (stand_moved l.moving) (range_with_len 0 l.o)
