use Rattle.std.proofs.Common.{◌≡◌, vec_len, vec_capacity}
use Rattle.std.specs.Arc.{arc_value}
use Rattle.smi_mail.specs.Mails.{AreOpenBoards, AreRows}
use Rattle.smi_mail.proofs.mailboxes.Mailboxes.new.Given as goal

abbrev pub invariant-loop-i : goal.invariant-loop-i
invariant-loop-i g l = (vec_len l.rows ≡ l._i) × (vec_capacity l.rows ≡ vec_capacity l.initial.rows) × AreOpenBoards (arc_value l.domain) l.capacity l._i l.board.items × AreRows l.capacity l.board.items l.rows.items
