use Rattle.std.proofs.Common.{flat_map, slice_get}
use Rattle.std.specs.List.{range_with_len}
use Rattle.sml_writer.specs.Tells.{Tells}
use Rattle.smirun_live.specs.Standing.{once_line}
use Rattle.smirun_live.proofs.standing.tell_each_once.Given as goal

-- what was written is the lines of the names before
abbrev pub invariant-loop-place : goal.invariant-loop-place
invariant-loop-place g l =
    Tells g.W.Sink.contents g.W.Sink.has_refused l.fn.out l.out
    (flat_map (λ p. once_line l.domain l.accounts.fates.counts (slice_get l.accounts.told p) (slice_get l.accounts.fates.watched p)) (range_with_len 0 l.place))
