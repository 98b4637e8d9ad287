use Rattle.std.proofs.Common.{◌≡◌, ◌+◌, vec_len, vec_capacity, length}
use Rattle.smi_run_runtime.proofs.closing.unlock_all.Given as goal

abbrev pub invariant-loop-lock : goal.invariant-loop-lock
invariant-loop-lock g l = (vec_len l.devices ≡ vec_len l.initial.devices + length l.yielded) × (vec_capacity l.devices ≡ vec_capacity l.initial.devices)
