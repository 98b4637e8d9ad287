use Rattle.std.proofs.Common.{◌≡◌, ◌+◌, vec_len, vec_capacity, length}
use Rattle.std.specs.List.{All}
use Rattle.smi_run_runtime.specs.Sessions.{AreSessionsOf, AreEmptyRows}
use Rattle.smi_run_runtime.proofs.opening.make_sessions.Given as goal

abbrev pub invariant-loop-end : goal.invariant-loop-end
invariant-loop-end g l = (vec_len l.rows + length l.yielded ≡ vec_len l.initial.rows) × All (AreEmptyRows (length g.K.MailNames.names.domain.objects)) l.rows.items × (vec_capacity l.sessions ≡ vec_capacity l.initial.sessions) × AreSessionsOf l.yielded l.sessions.items
