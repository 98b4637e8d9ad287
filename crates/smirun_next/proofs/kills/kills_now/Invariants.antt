use Rattle.std.proofs.Common.{◌≡◌}
use Rattle.smirun_next.specs.Kills.{all_front_kills}
use Rattle.smirun_next.proofs.kills.kills_now.Given as goal

-- those of the objects before were added
abbrev pub invariant-loop-o : goal.invariant-loop-o
invariant-loop-o l = l.kills.items ≡ all_front_kills l.core.world.journal l.o
