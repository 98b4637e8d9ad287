-- The branches of the instructions so far are begun.
use Rattle.smi_reach.specs.Reach.{BeginsBlocks}
use Rattle.smi_reach.proofs.Begun.{IsBranchBefore}
use Rattle.smi_reach.proofs.places.begin_within.Given as goal

abbrev pub invariant-loop-place : goal.invariant-loop-place
invariant-loop-place l = BeginsBlocks (IsBranchBefore l.domain l.block l.passed l.place) l.fn.begun.items l.begun.items
