use Rattle.std.proofs.Common.{◌≡◌, [], vec_len, vec_capacity}
use Rattle.smi_run_runtime.specs.Closing.{AreSlots}
use Rattle.smi_run_runtime.proofs.seats.new_slots.Given as goal

abbrev pub invariant-loop-k : goal.invariant-loop-k
invariant-loop-k g l = (vec_capacity l.slots ≡ vec_capacity l.initial.slots) × AreSlots l._k [] l.slots.items
