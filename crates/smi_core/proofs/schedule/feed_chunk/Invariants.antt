use Rattle.smi_core.specs.Output.{LineWrites}
use Rattle.std.proofs.Common.{List, ℕ, length}
use Rattle.smi_core.specs.Feeds.{IsPending, FedTo}
use Rattle.smi_core.proofs.schedule.feed_chunk.Given as goal

-- the bytes that are left
abbrev pub decreases-loop-rest : goal.decreases-loop-rest
decreases-loop-rest g l = length l.rest

abbrev pub invariant-loop-rest : goal.invariant-loop-rest
invariant-loop-rest g l = (line : List ℕ) → IsPending l.fn.pending.kept.items l.fn.pending.over line
    → FedTo LineWrites l.fn.core line l.chunk l.rest (g.W.Sink.contents l.fn.writer) (g.W.Sink.contents l.writer)
    l.core l.pending.kept.items l.pending.over
