use Rattle.std.proofs.Common.{◌≡◌, ◌+◌, vec_len, vec_capacity, length}
use Rattle.smi_run_runtime.proofs.opening.lock_devices.Given as goal

abbrev pub invariant-loop-device : goal.invariant-loop-device
invariant-loop-device g l = (vec_len l.locks ≡ vec_len l.initial.locks + length l.yielded) × (vec_capacity l.locks ≡ vec_capacity l.initial.locks)
