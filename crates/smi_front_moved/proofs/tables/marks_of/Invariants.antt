use Rattle.std.proofs.Common.{take}
use Rattle.smi_front_moved.specs.Tables.{AreMarkedOf}
use Rattle.smi_front_moved.proofs.tables.marks_of.Given as goal

-- those before were marked
abbrev pub invariant-loop-o : goal.invariant-loop-o
invariant-loop-o l = AreMarkedOf l.count (take l.o-index l.objects) l.marks.items
