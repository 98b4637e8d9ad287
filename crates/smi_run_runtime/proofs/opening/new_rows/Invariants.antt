use Rattle.std.proofs.Common.{◌≡◌, vec_len, vec_capacity}
use Rattle.std.specs.List.{All}
use Rattle.smi_run_runtime.specs.Sessions.{AreEmptyRows}
use Rattle.smi_run_runtime.proofs.opening.new_rows.Given as goal

abbrev pub invariant-loop-i : goal.invariant-loop-i
invariant-loop-i l = (vec_len l.rows ≡ l._i) × (vec_capacity l.rows ≡ vec_capacity l.initial.rows) × All (AreEmptyRows l.objects) l.rows.items
