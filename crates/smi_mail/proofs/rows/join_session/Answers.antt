use Rattle.std.proofs.Common.{◌∙◌, ap, sym, arith, ℕ, get_or}
use Rattle.std.proofs.lemmas.List.{length_push}
use Rattle.std.proofs.lemmas.Option.{slice_get_within}
use Rattle.std.proofs.lemmas.Iterator.Adapters.{YieldsList-from_vec}
use Rattle.std.proofs.lemmas.Iterator.Consumers.{YieldsList-turn, YieldsList-end}
use Rattle.smi_mail.specs.Rows.{joined_side}
use Rattle.smi_mail.proofs.Turns.{join_next, join_at}
use Rattle.smi_mail.proofs.rows.join_session.Goals as goal

pub absorb-requires-clause-mailbox : goal.absorb-requires-clause-mailbox
absorb-requires-clause-mailbox c =
    let i = c.loop-end.invariant in
    let given = c.into_iter-end-iterator.ensures.into_iter_gives in
    let t = YieldsList-turn (YieldsList-from_vec {s = c.into_iter-end-iterator.result} c.args.ends.items given.0 (omega (arith, given.1, c.args.ends.ok.0))) c.loop-end.yielded c.loop-end.end-iterator c.loop-end.yielded_by c.next.result c.next.new.self c.in-Some.end c.in-Some.is c.next.ensures.steps in
    let here = join_at joined_side c.args.board.now.items c.args.ends.items c.loop-end.board.items c.loop-end.place c.index_mut.result.now c.in-Some.end i.1 c.requires.long (omega (arith, t.0, i.0)) c.index_mut.ensures.value (t.1 ∙ ap (λ (k : ℕ). get_or c.args.ends.items k c.in-Some.end) (sym i.0)) in
    (c.requires.each c.loop-end.place _ _ here.2 here.3).0

pub absorb-requires-clause-order : goal.absorb-requires-clause-order
absorb-requires-clause-order c =
    let i = c.loop-end.invariant in
    let given = c.into_iter-end-iterator.ensures.into_iter_gives in
    let t = YieldsList-turn (YieldsList-from_vec {s = c.into_iter-end-iterator.result} c.args.ends.items given.0 (omega (arith, given.1, c.args.ends.ok.0))) c.loop-end.yielded c.loop-end.end-iterator c.loop-end.yielded_by c.next.result c.next.new.self c.in-Some.end c.in-Some.is c.next.ensures.steps in
    let here = join_at joined_side c.args.board.now.items c.args.ends.items c.loop-end.board.items c.loop-end.place c.index_mut.result.now c.in-Some.end i.1 c.requires.long (omega (arith, t.0, i.0)) c.index_mut.ensures.value (t.1 ∙ ap (λ (k : ℕ). get_or c.args.ends.items k c.in-Some.end) (sym i.0)) in
    (c.requires.each c.loop-end.place _ _ here.2 here.3).1

pub loop-end-preserved : goal.loop-end-preserved
loop-end-preserved c =
    let i = c.loop-end.invariant in
    let given = c.into_iter-end-iterator.ensures.into_iter_gives in
    let t = YieldsList-turn (YieldsList-from_vec {s = c.into_iter-end-iterator.result} c.args.ends.items given.0 (omega (arith, given.1, c.args.ends.ok.0))) c.loop-end.yielded c.loop-end.end-iterator c.loop-end.yielded_by c.next.result c.next.new.self c.in-Some.end c.in-Some.is c.next.ensures.steps in
    let here = join_at joined_side c.args.board.now.items c.args.ends.items c.loop-end.board.items c.loop-end.place c.index_mut.result.now c.in-Some.end i.1 c.requires.long (omega (arith, t.0, i.0)) c.index_mut.ensures.value (t.1 ∙ ap (λ (k : ℕ). get_or c.args.ends.items k c.in-Some.end) (sym i.0)) in
    let long = length_push c.loop-end.yielded c.in-Some.end in
    (omega (arith, i.0), join_next joined_side c.args.board.now.items c.args.ends.items c.loop-end.board.items c.loop-end.place c.index_mut.result.now c.absorb.new.self c.in-Some.end i.1 here.0 here.1 here.3 c.absorb.ensures)

pub returns-clause-each : goal.returns-clause-each
returns-clause-each c =
    let given = c.into_iter-end-iterator.ensures.into_iter_gives in
    let t = YieldsList-end (YieldsList-from_vec {s = c.into_iter-end-iterator.result} c.args.ends.items given.0 (omega (arith, given.1, c.args.ends.ok.0))) c.loop-end.yielded c.loop-end.end-iterator c.loop-end.yielded_by c.next.result c.next.new.self c.in-None.is c.next.ensures.steps in
    λ o b e was was'. c.loop-end.invariant.1.done o b e (omega (arith, t.1, c.loop-end.invariant.0, slice_get_within c.args.ends.items o e was')) was was'
