use Rattle.std.proofs.Common.{◌≡◌, length}
use Rattle.smi_mail.specs.Rows.{joined_side}
use Rattle.smi_mail.proofs.Turns.{Joined}
use Rattle.smi_mail.proofs.rows.join_session.Given as goal

abbrev pub invariant-loop-end : goal.invariant-loop-end
invariant-loop-end l = (l.place ≡ length l.yielded) × Joined joined_side l.initial.board.items l.fn.ends.items l.board.items l.place
