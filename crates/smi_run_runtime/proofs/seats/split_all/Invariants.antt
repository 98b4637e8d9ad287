use Rattle.std.proofs.Common.{◌≡◌, length, vec_capacity}
use Rattle.smi_run_runtime.specs.Closing.{AreSeats}
use Rattle.smi_run_runtime.proofs.seats.split_all.Given as goal

abbrev pub invariant-loop-slot : goal.invariant-loop-slot
invariant-loop-slot g l = (vec_capacity l.ends ≡ vec_capacity l.initial.ends) × (vec_capacity l.accepted ≡ vec_capacity l.initial.accepted) × AreSeats (length l.yielded) l.fn.closed.items l.ends.items l.accepted.items
