use Rattle.std.proofs.Common.{◌<◌, ◌∙◌, ◌++◌, ◌∷◌, [], ap, arith, length, take, map}
use Rattle.smi_mail.specs.Sides.{SessionSide}
use Rattle.smi_mail.specs.Rows.{session_side_of, more_side}
use Rattle.smi_mail.proofs.Turns.{change_next, map_next}
use Rattle.smi_mail.proofs.rows.new_session.Goals as goal

pub loop-i-preserved : goal.loop-i-preserved
loop-i-preserved c =
    let i = c.loop-i.invariant in
    let old = c.args.board.now.items in
    let lt : c.loop-i.i < length old = omega (arith, c.args.board.now.ok.0, c.len-count.ensures) in
    let next = change_next more_side old c.loop-i.board.items c.loop-i.i c.index_mut.result.now c.session.new.self i.0 lt c.index_mut.ensures.value in
    let front = map session_side_of (take c.loop-i.i old) in (
      next.1 c.in_ok-end.ensures.made.1,
      c.push_reserved.ensures.items ∙ ap (λ l. l ++ c.in_ok-end.end ∷ []) i.1 ∙ ap (λ (e : SessionSide). front ++ e ∷ []) c.in_ok-end.ensures.made.0 ∙ map_next session_side_of old c.loop-i.i c.index_mut.result.now lt next.0,
      i.2,
      omega (arith, c.push_reserved.ensures.len, i.3),
      c.push_reserved.ensures.capacity ∙ i.4,
    )
