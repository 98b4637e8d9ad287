-- The way is that of what is left where the instructions passed begin.
use Rattle.std.proofs.Common.{◌-◌}
use Rattle.sml_domain.specs.Places.{left_at}
use Rattle.smi_reach.specs.Ways.{IsWayOf}
use Rattle.smi_reach.proofs.ways.way_of.Given as goal

abbrev pub invariant-loop-passed : goal.invariant-loop-passed
invariant-loop-passed l = IsWayOf (left_at l.domain.blocks l.block (l.count - l.passed)) l.way
