use Rattle.std.proofs.Common.{arith}
use Rattle.smi_outset_text.proofs.Fronts.{feed_more}
use Rattle.smi_outset_text.proofs.pieces.bytes_before_feed.Goals as goal

pub loop-count-preserved : goal.loop-count-preserved
loop-count-preserved c = (
  omega (arith, c.loop-count-test.true),
  feed_more _ _ c.loop-count-test.true c.loop-count.invariant.1 c.if-text-count-ne10.true,
)
