use Rattle.std.proofs.Common.{length, ◌-◌}
use Rattle.smi_live_answers.proofs.Ends.{IsBodyTo}
use Rattle.smi_live_answers.proofs.words.comment_place.Given as goal

abbrev pub invariant-loop-count : goal.invariant-loop-count
invariant-loop-count l = IsBodyTo l.line l.count

abbrev pub decreases-loop-count : goal.decreases-loop-count
decreases-loop-count l = length l.line - l.count
