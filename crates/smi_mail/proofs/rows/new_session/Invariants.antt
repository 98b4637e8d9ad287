use Rattle.std.proofs.Common.{◌≡◌, ◌++◌, map, take, drop, vec_len, vec_capacity}
use Rattle.smi_mail.specs.Rows.{session_side_of, more_side}
use Rattle.smi_mail.proofs.rows.new_session.Given as goal

abbrev pub invariant-loop-i : goal.invariant-loop-i
invariant-loop-i l =
    (l.board.items ≡ map more_side (take l.i l.initial.board.items) ++ drop l.i l.initial.board.items) × (l.ends.items ≡ map session_side_of (take l.i l.initial.board.items)) × (vec_len l.board ≡ vec_len l.initial.board) × (vec_len l.ends ≡ l.i) × (vec_capacity l.ends ≡ vec_capacity l.initial.ends)
