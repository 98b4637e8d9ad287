use Rattle.std.proofs.Common.{◌≤◌, ◌-◌, length, take}
use Rattle.sml_text.specs.Written.{Wrote}
use Rattle.sml_text.proofs.writing.put.Given as goal

abbrev pub invariant-loop-at : goal.invariant-loop-at
invariant-loop-at g l = Wrote (g.S.Sink.contents l.fn.sink) (g.S.Sink.contents l.sink) (take l.at l.bytes) × (l.at ≤ length l.bytes)

abbrev pub decreases-loop-at : goal.decreases-loop-at
decreases-loop-at g l = length l.bytes - l.at
