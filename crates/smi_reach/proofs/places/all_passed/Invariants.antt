-- The counts so far are those of the first blocks.
use Rattle.std.proofs.Common.{◌≡◌, length}
use Rattle.smi_reach.specs.Reach.{ArePassedCounts}
use Rattle.smi_reach.proofs.places.all_passed.Given as goal

abbrev pub invariant-loop-block : goal.invariant-loop-block
invariant-loop-block l = record {
  counts : ArePassedCounts l.domain l.passed.items;
  all : length l.passed.items ≡ l.block;
}
