use Rattle.std.proofs.Common.{◌≡◌, ◌<◌, ◌∙◌, ap, sym, subst, rules, arith, length, ℕ}
use Rattle.smi_run_runtime.proofs.Places.{slots_placed, slots_past}
use Rattle.smi_run_runtime.proofs.seats.place_one.Goals as goal
