use Rattle.std.proofs.Common.{◌∙◌, arith}
use Rattle.smi_mail.proofs.Opening.{boards_more, rows_more}
use Rattle.smi_mail.proofs.mailboxes.Mailboxes.new.Goals as goal

pub loop-i-preserved : goal.loop-i-preserved
loop-i-preserved g c =
    let i = c.loop-i.invariant in
    let board = c.in_ok-ends.ensures.board in (
      omega (arith, c.push_reserved.ensures.len, i.0),
      c.push_reserved.ensures.capacity ∙ i.1,
      rw board (boards_more _ _ _ _ i.2),
      rw c.push_reserved.ensures.items (rows_more _ _ c.loop-i._i c.loop-i.board.items c.new_session.new.board.items c.loop-i.rows.items c.in_ok-ends.ends i.2 board c.in_ok-ends.ensures.ends (omega (arith, i.0, c.loop-i.rows.ok.0)) i.3),
    )
