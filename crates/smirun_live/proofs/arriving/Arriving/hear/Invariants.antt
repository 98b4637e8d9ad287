use Rattle.std.proofs.Common.{◌≡◌}
use Rattle.smirun_live.proofs.arriving.Arriving.hear.Given as goal

-- nothing was noted of what was heard
abbrev pub invariant-loop : goal.invariant-loop
invariant-loop g l =
    (goal.iterator-loop g).can_next l.iterator' × (goal.iterator-loop g).is_finite l.iterator'
    × (l.self.hearing ≡ l.fn.self.hearing)
