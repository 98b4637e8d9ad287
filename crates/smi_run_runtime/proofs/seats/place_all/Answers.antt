use Rattle.std.proofs.Common.{◌∷◌}
use Rattle.smi_run_runtime.proofs.Places.{same_end}
use Rattle.smi_run_runtime.proofs.seats.place_all.Goals as goal

pub loop-one-preserved : goal.loop-one-preserved
loop-one-preserved g c =
    let i = c.loop-one.invariant in
    (c.in-Some.one ∷ i.0, same_end c.args.closed.items c.loop-one.closed.items c.pop.new.self.items i.0 c.pop.result c.in-Some.one i.1 c.pop.ensures.items c.in-Some.is, c.place_one.ensures i.0 i.2)
