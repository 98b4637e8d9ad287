use Rattle.std.proofs.Common.{◌≡◌, ◌++◌, ◌∷◌, [], ap, sym, ◌∙◌, arith, map}
use Rattle.std.specs.List.{range_with_len}
use Rattle.std.proofs.lemmas.List.{map-append}
use Rattle.std.proofs.lemmas.List.Elements.{All-push}
use Rattle.smi_mail.specs.declared.rule.Kind.{Kind}
use Rattle.smi_mail.specs.declared.rule.BoardView.{BoardView}
use Rattle.smi_mail.specs.Sides.{BoardSide}
use Rattle.smi_mail.specs.Rule.{mailbox_kind}
use Rattle.smi_mail.specs.Mails.{board_opened}
use Rattle.smi_mail.proofs.Opening.{range_more}
use Rattle.smi_mail.proofs.mailboxes.open_mailboxes.Goals as goal

pub loop-i-preserved : goal.loop-i-preserved
loop-i-preserved c =
    let i = c.loop-i.invariant in
    let f : BoardSide → Kind = λ e. e.seen.kind in
    let new = c.in_ok-end.ensures in
    let end = c.in_ok-end.end in
    let items = c.push_reserved.ensures.items in (
      omega (arith, c.push_reserved.ensures.len, i.0),
      c.push_reserved.ensures.capacity ∙ i.1,
      ap (map f) items ∙ map-append f c.loop-i.board.items (end ∷ []) ∙ ap (λ l. l ++ f end ∷ []) i.2 ∙ ap (λ k. map (mailbox_kind c.args.domain.now) (range_with_len 0 c.loop-i.i) ++ k ∷ []) (ap (λ (b : BoardView). b.kind) new ∙ ap (mailbox_kind c.args.domain.now) c.new.ensures)
          ∙ sym (map-append (mailbox_kind c.args.domain.now) (range_with_len 0 c.loop-i.i) (c.loop-i.i ∷ [])) ∙ ap (map (mailbox_kind c.args.domain.now)) (sym (range_more c.loop-i.i)),
      rw items (All-push (λ (e : BoardSide). e.seen ≡ board_opened e.seen.kind c.args.capacity 0) c.loop-i.board.items end i.3 (new ∙ ap (λ (b : BoardView). board_opened b.kind c.args.capacity 0) (sym new))),
    )
