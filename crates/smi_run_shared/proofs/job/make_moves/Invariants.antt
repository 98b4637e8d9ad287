use Rattle.std.proofs.Common.{◌≡◌}
use Rattle.smi_run_shared.proofs.job.make_moves.Given as goal

abbrev pub invariant-loop : goal.invariant-loop
invariant-loop g l = (l.task.domain ≡ l.initial.task.domain) × (l.task.turn.object ≡ l.initial.task.turn.object)
