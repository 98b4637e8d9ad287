-- The blocks so far, from the last one down, are looked at.
use Rattle.std.proofs.Common.{◌-◌}
use Rattle.smi_reach.specs.Reach.{IsReachUnderWay}
use Rattle.smi_reach.proofs.places.reach_of.Given as goal

abbrev pub invariant-loop-looked_at : goal.invariant-loop-looked_at
invariant-loop-looked_at l = IsReachUnderWay l.domain l.passed.items l.begun.items (l.count - l.looked_at)
