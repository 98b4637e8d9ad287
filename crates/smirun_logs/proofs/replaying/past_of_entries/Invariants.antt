use Rattle.std.proofs.Common.{take}
use Rattle.std.specs.Arc.{arc_value}
use Rattle.smirun_logs.proofs.Replayed.{IsReplayed}
use Rattle.smirun_logs.proofs.replaying.past_of_entries.Given as goal

-- the entries before the turn's were replayed
abbrev pub invariant-loop-entry : goal.invariant-loop-entry
invariant-loop-entry g l = IsReplayed (arc_value l.domain) (take l.entry-index l.entries) l.past
