use Rattle.std.proofs.Common.{arith}
use Rattle.sml_text.proofs.Writes.{wrote_next}
use Rattle.sml_text.proofs.writing.put.Goals as goal

pub loop-at-preserved : goal.loop-at-preserved
loop-at-preserved g c = (
  wrote_next _ _ _ _ _ _ _ c.loop-at.invariant.0 c.split_at.ensures.back c.in-Some-offer.ensures.some.2,
  omega (arith, c.loop-at.invariant.1, c.in-Some-offer.ensures.some.1, c.split_at.ensures.back_len),
)
