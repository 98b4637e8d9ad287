use Rattle.std.proofs.Common.{◌≡◌, drop}
use Rattle.smi_run_runtime.specs.Closing.{closed_of}
use Rattle.smi_run_runtime.proofs.seats.closed_at.Given as goal

abbrev pub invariant-loop-one : goal.invariant-loop-one
invariant-loop-one g l = closed_of l.closed l.session ≡ closed_of (drop l.one-index l.closed) l.session
