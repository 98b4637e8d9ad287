use Rattle.smi_run_runtime.proofs.Places.{all_more}
use Rattle.smi_run_runtime.proofs.seats.is_missing.Goals as goal

pub loop-k-preserved : goal.loop-k-preserved
loop-k-preserved g c = all_more c.loop-k.k c.args.closed.now _ c.loop-k.invariant c.in-Some.ensures
