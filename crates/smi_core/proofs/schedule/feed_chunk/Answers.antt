use Rattle.smi_core.specs.Output.{LineWrites}
use Rattle.smi_core.proofs.Fronts.{fed_then, halted_then, same_fault}
use Rattle.smi_core.specs.declared.schedule.LineFault.TheVariants.{Write}
use Rattle.smi_core.proofs.schedule.feed_chunk.Goals as goal

pub loop-rest-preserved : goal.loop-rest-preserved
loop-rest-preserved g c line p =
    fed_then LineWrites _ line _ _ _ _ _ _ _ _ _ _ _ _ (c.loop-rest.invariant line p) c.in-Ok.ensures.ok

pub returns-in-Err-clause-err : goal.returns-in-Err-clause-err
returns-in-Err-clause-err g c line p =
    let told = same_fault c.in-Err.fault Write in
    halted_then LineWrites _ line _ _ _ _ _ _ _ _ _ _ _ told (c.loop-rest.invariant line p) c.in-Err.ensures.err
