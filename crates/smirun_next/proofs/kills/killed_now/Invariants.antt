use Rattle.std.proofs.Common.{◌≡◌}
use Rattle.smirun_next.specs.Kills.{all_killed}
use Rattle.smirun_next.proofs.kills.killed_now.Given as goal

-- so it was said of the objects before
abbrev pub invariant-loop-o : goal.invariant-loop-o
invariant-loop-o l = l.killed.items ≡ all_killed l.core.world.journal l.o
