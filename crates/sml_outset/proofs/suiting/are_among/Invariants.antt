use Rattle.std.proofs.Common.{◌<◌, ℕ, slice_index_or}
use Rattle.std.specs.List.{Contains}
use Rattle.sml_outset.proofs.suiting.are_among.Given as goal

abbrev pub invariant-loop-object : goal.invariant-loop-object
invariant-loop-object l = (k x : ℕ) → k < l.object-index → Contains l.some (slice_index_or l.objects k x)
