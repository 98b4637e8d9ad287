use Rattle.std.proofs.Common.{◌≡◌, [], vec_len, vec_capacity}
use Rattle.std.specs.List.{All}
use Rattle.smi_run_runtime.proofs.opening.new_row.Given as goal

abbrev pub invariant-loop-i : goal.invariant-loop-i
invariant-loop-i l = (vec_len l.row ≡ l._i) × (vec_capacity l.row ≡ vec_capacity l.initial.row) × All (λ w. w.items ≡ []) l.row.items
