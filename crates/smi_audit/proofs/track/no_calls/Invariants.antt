-- As many places as turns were made, and nothing asked.
use Rattle.std.proofs.Common.{◌≡◌, ◌≤◌, []}
use Rattle.std.specs.Prelude.{replicate, vec_len, vec_capacity}
use Rattle.smi_audit.proofs.track.no_calls.Given as goal

abbrev pub invariant-loop : goal.invariant-loop
invariant-loop l = record {
  long : vec_len l.calls ≡ l.counter;
  room : l.objects ≤ vec_capacity l.calls;
  none : l.calls.items ≡ replicate l.counter [];
}
