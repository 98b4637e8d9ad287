-- The ways so far are those of the first blocks.
use Rattle.std.proofs.Common.{◌≡◌, length}
use Rattle.smi_reach.specs.Ways.{AreWays}
use Rattle.smi_reach.proofs.ways.ways_of.Given as goal

abbrev pub invariant-loop-block : goal.invariant-loop-block
invariant-loop-block l = record {
  known : AreWays l.domain l.ways.items;
  count : length l.ways.items ≡ l.block;
}
