-- The blocks of the actions so far are begun.
use Rattle.std.proofs.Common.{take}
use Rattle.smi_reach.specs.Reach.{BeginsBlocks, IsBlockAmong}
use Rattle.smi_reach.proofs.places.begin_actions.Given as goal

abbrev pub invariant-loop-action : goal.invariant-loop-action
invariant-loop-action l = BeginsBlocks (IsBlockAmong (take l.action-index l.row.actions)) l.fn.begun.items l.begun.items
