use Rattle.std.proofs.Common.{◌≡◌, ◌+◌, vec_len, vec_capacity, length}
use Rattle.smi_run.proofs.running.seat_all.Given as goal

abbrev pub invariant-loop-session : goal.invariant-loop-session
invariant-loop-session g l =
    (vec_len l.seats ≡ vec_len l.initial.seats + length l.yielded) × (vec_capacity l.seats ≡ vec_capacity l.initial.seats)
