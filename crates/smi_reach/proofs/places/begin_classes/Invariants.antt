-- The blocks of the classes so far are begun.
use Rattle.std.proofs.Common.{take}
use Rattle.smi_reach.specs.Reach.{BeginsBlocks, IsBlockOfClasses}
use Rattle.smi_reach.proofs.places.begin_classes.Given as goal

abbrev pub invariant-loop-class : goal.invariant-loop-class
invariant-loop-class l = BeginsBlocks (IsBlockOfClasses (take l.class-index l.domain.classes)) l.fn.begun.items l.begun.items
