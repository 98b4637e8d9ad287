use Rattle.std.proofs.Common.{◌≡◌, map}
use Rattle.std.specs.List.{range_with_len}
use Rattle.smi_front_moved.specs.CarriedMoved.{counts_moved}
use Rattle.smi_front_moved.proofs.counts.all_counts_moved.Given as goal

-- those of the objects before were made
abbrev pub invariant-loop-o : goal.invariant-loop-o
invariant-loop-o l = l.made.items ≡ map (counts_moved l.moving) (range_with_len 0 l.o)
