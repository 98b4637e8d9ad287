use Rattle.std.proofs.Common.{take}
use Rattle.smi_front_moved.specs.Tables.{AreKillers}
use Rattle.smi_front_moved.proofs.tables.killers_of.Given as goal

-- the kills before were put down
abbrev pub invariant-loop-kill : goal.invariant-loop-kill
invariant-loop-kill l = AreKillers l.count (take l.kill-index l.kills) l.killers.items
