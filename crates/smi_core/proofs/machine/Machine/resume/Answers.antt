-- A task that continues.
use Rattle.std.proofs.Common.{ap}
use Rattle.smi_core.proofs.Taking.{resumed_at, stays_then}
use Rattle.smi_core.proofs.machine.Machine.resume.Goals as goal

pub loop-task-smaller : goal.loop-task-smaller
loop-task-smaller c =
    let object = ap (λ t. t.object) c.turn.ensures.is in
    (resumed_at _ _ _ _ _ _ _ c.loop-task.invariant.told c.loop-task.invariant.have c.in-Some.ensures.some c.in-Some.ensures.tasks object c.keep.ensures).fewer

pub loop-task-preserved : goal.loop-task-preserved
loop-task-preserved c =
    let object = ap (λ t. t.object) c.turn.ensures.is in
    let h = resumed_at _ _ _ _ _ _ _ c.loop-task.invariant.told c.loop-task.invariant.have c.in-Some.ensures.some c.in-Some.ensures.tasks object c.keep.ensures in
    record { told = c.told-in-Some.ensures; have = h.have; stays = stays_then _ _ _ _ _ _ c.loop-task.invariant.stays h.stays }
