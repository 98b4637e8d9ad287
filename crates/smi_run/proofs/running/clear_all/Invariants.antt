use Rattle.std.proofs.Common.{◌≡◌, ◌+◌, vec_len, vec_capacity, length}
use Rattle.smi_run.proofs.running.clear_all.Given as goal

abbrev pub invariant-loop-seat : goal.invariant-loop-seat
invariant-loop-seat g l =
    (vec_len l.closed ≡ vec_len l.initial.closed + length l.yielded)
    × (vec_capacity l.closed ≡ vec_capacity l.initial.closed)
    × (vec_len l.refused ≡ vec_len l.initial.refused + length l.yielded)
    × (vec_capacity l.refused ≡ vec_capacity l.initial.refused)
