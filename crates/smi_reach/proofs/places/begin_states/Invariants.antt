-- The blocks of the states so far are begun.
use Rattle.std.proofs.Common.{take}
use Rattle.smi_reach.specs.Reach.{BeginsBlocks, IsBlockWithin}
use Rattle.smi_reach.proofs.places.begin_states.Given as goal

abbrev pub invariant-loop-row : goal.invariant-loop-row
invariant-loop-row l = BeginsBlocks (IsBlockWithin (take l.row-index l.class.states)) l.fn.begun.items l.begun.items
