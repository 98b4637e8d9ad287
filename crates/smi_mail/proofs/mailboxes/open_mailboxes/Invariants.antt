use Rattle.std.proofs.Common.{◌≡◌, map, vec_len, vec_capacity}
use Rattle.std.specs.List.{All}
use Rattle.smi_mail.specs.Sides.{BoardSide}
use Rattle.smi_mail.specs.Mails.{board_opened}
use Rattle.std.specs.List.{range_with_len}
use Rattle.smi_mail.specs.Rule.{mailbox_kind}
use Rattle.smi_mail.proofs.mailboxes.open_mailboxes.Given as goal

abbrev pub invariant-loop-i : goal.invariant-loop-i
invariant-loop-i l =
    (vec_len l.board ≡ l.i) × (vec_capacity l.board ≡ vec_capacity l.initial.board) × (map (λ (e : BoardSide). e.seen.kind) l.board.items ≡ map (mailbox_kind l.domain) (range_with_len 0 l.i))
    × All (λ (e : BoardSide). e.seen ≡ board_opened e.seen.kind l.capacity 0) l.board.items
