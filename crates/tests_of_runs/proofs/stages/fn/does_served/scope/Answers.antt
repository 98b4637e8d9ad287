use denote.Param.Send.{sendable}
use Rattle.std.proofs.Crossing.{crosses}
use Rattle.smi_run.proofs.Crosses.{runtime_sync}
use Rattle.tests_of_runs.proofs.valves.Valve.TheSendSync as valve
use Rattle.tests_of_runs.proofs.stages.fn.does_served.scope.Goals as goal

pub spawn-requires-send-F : goal.spawn-requires-send-F
spawn-requires-send-F g c = λ κs a. search (runtime_sync, valve.the_send, sendable, crosses) depth 40 fits 20000
