use denote.Param.Send.{sendable}
use Rattle.std.proofs.Crossing.{crosses}
use Rattle.smi_run.proofs.Crosses.{runtime_sync}
use Rattle.smi_run.proofs.running.Seat.TheSendSync as seat
use Rattle.smi_run.proofs.script.Script.TheSendSync as script
use Rattle.smi_run.proofs.workers.Workers.TheSendSync as workers
use Rattle.smi_run.proofs.running.fn.run_all.scope.Goals as goal

pub spawn-requires-send-F : goal.spawn-requires-send-F
spawn-requires-send-F g c = λ κs a. search (runtime_sync, workers.the_sync, sendable, crosses) depth 40 fits 20000

pub spawn-requires-in-loop-seat-send-F : goal.spawn-requires-in-loop-seat-send-F
spawn-requires-in-loop-seat-send-F g c = λ κs a.
    search (runtime_sync, seat.the_sync, script.the_sync, sendable, crosses) depth 40 fits 20000
