use Rattle.std.proofs.Common.{take}
use Rattle.smi_live_carried.specs.TakingAlong.{AreTaken}
use Rattle.smi_live_carried.proofs.taking_along.all_once_of.Given as goal

-- those before go along
abbrev pub invariant-loop-place : goal.invariant-loop-place
invariant-loop-place l = AreTaken (take l.place l.over.told) l.over.fates.watched l.names.items
