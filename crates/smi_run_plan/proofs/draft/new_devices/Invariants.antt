-- The devices that were made answer nothing.
use Rattle.std.proofs.Common.{◌≡◌, ℕ, length, None}
use Rattle.smi_run_plan.specs.Plans.{answer_at}
use Rattle.smi_run_plan.proofs.draft.new_devices.Given as goal

abbrev pub invariant-loop-i : goal.invariant-loop-i
invariant-loop-i l =
    (length l.devices.items ≡ l._i) × ((o a : ℕ) → answer_at l.devices.items o a ≡ None)
