use Rattle.std.proofs.Common.{flat_map, slice_get}
use Rattle.std.specs.List.{range_with_len}
use Rattle.sml_writer.specs.Tells.{Tells}
use Rattle.smirun_live.specs.Standing.{counts_lines}
use Rattle.smirun_live.proofs.standing.tell_counts.Given as goal

-- what was written is the lines of the objects before
abbrev pub invariant-loop-o : goal.invariant-loop-o
invariant-loop-o g l =
    Tells g.W.Sink.contents g.W.Sink.has_refused l.fn.out l.out
    (flat_map (λ o. counts_lines l.domain o (slice_get l.accounts.fates.counts o)) (range_with_len 0 l.o))
