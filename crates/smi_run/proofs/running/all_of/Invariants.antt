use Rattle.std.proofs.Common.{◌≡◌, ◌+◌, vec_len, vec_capacity}
use Rattle.smi_run.proofs.running.all_of.Given as goal

-- a count for each of those before
abbrev pub invariant-loop-refusals : goal.invariant-loop-refusals
invariant-loop-refusals l =
    (vec_len l.counts ≡ vec_len l.initial.counts + l.refusals-index) × (vec_capacity l.counts ≡ vec_capacity l.initial.counts)
