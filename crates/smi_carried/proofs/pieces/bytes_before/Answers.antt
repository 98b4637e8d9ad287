use Rattle.std.proofs.Common.{arith}
use Rattle.smi_carried.proofs.Cuts.{other_more}
use Rattle.smi_carried.proofs.pieces.bytes_before.Goals as goal

pub loop-count-preserved : goal.loop-count-preserved
loop-count-preserved c = (
  omega (arith, c.loop-count-test.true),
  other_more _ _ _ c.loop-count-test.true c.loop-count.invariant.1 c.if-text-count.true,
)
