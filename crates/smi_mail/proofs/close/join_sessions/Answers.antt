use Rattle.std.proofs.Common.{◌∙◌, ap, arith, refl, length}
use Rattle.std.proofs.lemmas.Option.{slice_get_read}
use Rattle.std.proofs.lemmas.Iterator.Adapters.{YieldsList-from_vec}
use Rattle.std.proofs.lemmas.Iterator.Consumers.{YieldsList-turn}
use Rattle.smi_mail.specs.Mails.{OperatorSide}
use Rattle.smi_mail.proofs.Closing.{row_joins, row_joined}
use Rattle.smi_mail.proofs.close.join_sessions.Goals as goal

pub join_session-requires-clause-each : goal.join_session-requires-clause-each
join_session-requires-clause-each g c =
    let i = c.loop-end.invariant in
    let given = c.into_iter-end-iterator.ensures.into_iter_gives in
    let t = YieldsList-turn (YieldsList-from_vec {s = c.into_iter-end-iterator.result} c.args.ends.items given.0 (omega (arith, given.1, c.args.ends.ok.0))) c.loop-end.yielded c.loop-end.end-iterator c.loop-end.yielded_by c.next.result c.next.new.self c.in-Some.end c.in-Some.is c.next.ensures.steps in
    let at = slice_get_read c.args.ends.items _ (length c.loop-end.yielded) c.in-Some.end refl t.0 t.1 in
    let place = ap (λ (y : OperatorSide). y.session) c.end.view_is ∙ c.requires.order (length c.loop-end.yielded) c.in-Some.end at in
    row_joins _ _ _ _ c.args.board.now.items c.requires.board c.loop-end.board.items c.loop-end.yielded i.0 i.1 c.end.inside.ends.items c.end.inside.session c.end.invariant place

pub loop-end-preserved : goal.loop-end-preserved
loop-end-preserved g c =
    let i = c.loop-end.invariant in
    let given = c.into_iter-end-iterator.ensures.into_iter_gives in
    let t = YieldsList-turn (YieldsList-from_vec {s = c.into_iter-end-iterator.result} c.args.ends.items given.0 (omega (arith, given.1, c.args.ends.ok.0))) c.loop-end.yielded c.loop-end.end-iterator c.loop-end.yielded_by c.next.result c.next.new.self c.in-Some.end c.in-Some.is c.next.ensures.steps in
    let at = slice_get_read c.args.ends.items _ (length c.loop-end.yielded) c.in-Some.end refl t.0 t.1 in
    let place = ap (λ (y : OperatorSide). y.session) c.end.view_is ∙ c.requires.order (length c.loop-end.yielded) c.in-Some.end at in
    (c.join_session.ensures.long ∙ i.0, row_joined _ _ _ _ c.args.board.now.items c.requires.board c.loop-end.board.items c.loop-end.yielded i.0 i.1 c.end.inside.ends.items c.end.inside.session c.end.invariant place c.join_session.new.board.items c.in-Some.end c.end.view_is c.join_session.ensures.each)
