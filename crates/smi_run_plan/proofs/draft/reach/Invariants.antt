-- The lists that were added are empty.
use Rattle.std.proofs.Common.{◌≡◌, ◌≤◌, ℕ, length}
use Rattle.std.specs.Prelude.{max}
use Rattle.smi_run_plan.specs.Plans.{deeds_at}
use Rattle.smi_run_plan.proofs.draft.reach.Given as goal

abbrev pub invariant-loop-i : goal.invariant-loop-i
invariant-loop-i l =
    (length l.sessions.items ≡ l.i) × (l.i ≤ max (length l.initial.sessions.items) l.fn.count)
    × ((i : ℕ) → deeds_at l.sessions.items i ≡ deeds_at l.initial.sessions.items i)
