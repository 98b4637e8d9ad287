use Rattle.std.proofs.Common.{◌≡◌, ◌++◌, List, vec_len}
use Rattle.smi_run_runtime.specs.Sessions.{SessionBook}
use Rattle.smi_run_runtime.specs.Closing.{AreSlots}
use Rattle.smi_run_runtime.proofs.seats.place_all.Given as goal

abbrev pub invariant-loop-one : goal.invariant-loop-one
invariant-loop-one g l = (rest : List SessionBook) × (l.initial.closed.items ≡ l.closed.items ++ rest) × AreSlots l.sessions rest l.slots.items

abbrev pub decreases-loop-one : goal.decreases-loop-one
decreases-loop-one g l = vec_len l.closed
