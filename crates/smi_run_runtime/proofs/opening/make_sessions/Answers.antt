use Rattle.std.proofs.Common.{◌≡◌, ◌∙◌, ap, sym, subst, refl, rules, arith, ℕ, length, Some, Option, vec_len, ◌-◌}
use Rattle.std.specs.Prelude.{Vec, option_to_list}
use Rattle.std.specs.Global.{Global}
use Rattle.std.specs.List.{All}
use Rattle.std.proofs.lemmas.List.{length_push}
use Rattle.std.proofs.lemmas.List.Elements.{All-take}
use Rattle.std.proofs.lemmas.Option.{slice_get_read}
use Rattle.std.proofs.lemmas.Iterator.Adapters.{YieldsList-from_vec}
use Rattle.std.proofs.lemmas.Iterator.Consumers.{YieldsList-turn}
use Rattle.smi_run_report.specs.declared.told.Accepted.{Accepted}
use Rattle.smi_run_runtime.specs.Sessions.{SessionBook, AreEmptyRows, AreSessionsOf, told_at}
use Rattle.smi_run_runtime.proofs.Places.{popped, sessions_more, no_rows}
use Rattle.smi_run_runtime.proofs.opening.make_sessions.Goals as goal

pub new-requires-clause-sent : goal.new-requires-clause-sent
new-requires-clause-sent g c =
    let given = c.into_iter-end-iterator.ensures.into_iter_gives in
    let ends = c.args.ends.items in
    let t = YieldsList-turn (YieldsList-from_vec {s = c.into_iter-end-iterator.result} ends given.0 (omega (arith, given.1, c.args.ends.ok.0))) c.loop-end.yielded c.loop-end.end-iterator c.loop-end.yielded_by c.next.result c.next.new.self c.in-Some.end c.in-Some.is c.next.ensures.steps in
    c.requires.ends (length c.loop-end.yielded) c.in-Some.end (slice_get_read ends _ (length c.loop-end.yielded) c.in-Some.end refl t.0 t.1)

pub new-requires-clause-wide : goal.new-requires-clause-wide
new-requires-clause-wide g c = (popped (AreEmptyRows (length g.K.MailNames.names.domain.objects)) c.loop-end.rows.items c.pop.new.self.items c.pop.result c.unwrap-row.result c.pop.ensures.items c.unwrap-row.ensures c.loop-end.invariant.1).0

pub new-requires-clause-empty : goal.new-requires-clause-empty
new-requires-clause-empty g c = (popped (AreEmptyRows (length g.K.MailNames.names.domain.objects)) c.loop-end.rows.items c.pop.new.self.items c.pop.result c.unwrap-row.result c.pop.ensures.items c.unwrap-row.ensures c.loop-end.invariant.1).1

pub loop-end-preserved : goal.loop-end-preserved
loop-end-preserved g c =
    let i = c.loop-end.invariant in
    let given = c.into_iter-end-iterator.ensures.into_iter_gives in
    let ends = c.args.ends.items in
    let t = YieldsList-turn (YieldsList-from_vec {s = c.into_iter-end-iterator.result} ends given.0 (omega (arith, given.1, c.args.ends.ok.0))) c.loop-end.yielded c.loop-end.end-iterator c.loop-end.yielded_by c.next.result c.next.new.self c.in-Some.end c.in-Some.is c.next.ensures.steps in
    let row = popped (AreEmptyRows (length g.K.MailNames.names.domain.objects)) c.loop-end.rows.items c.pop.new.self.items c.pop.result c.unwrap-row.result c.pop.ensures.items c.unwrap-row.ensures i.1 in (
      omega (arith, i.0, c.pop.ensures.len, ap (λ (r : Option (Vec (Vec Accepted Global) Global)). length (option_to_list r)) c.unwrap-row.ensures, length_push c.loop-end.yielded c.in-Some.end),
      rw c.pop.ensures.rest (All-take (AreEmptyRows (length g.K.MailNames.names.domain.objects)) (vec_len c.loop-end.rows - 1) c.loop-end.rows.items i.1),
      c.push_reserved.ensures.capacity ∙ i.2,
      rw c.push_reserved.ensures.items (sessions_more c.loop-end.yielded c.loop-end.sessions.items c.in-Some.end c.new.result i.3 (record {
        session = ap (λ (s : SessionBook). s.session) c.new.ensures;
        receipts = ap (λ (s : SessionBook). s.receipts) c.new.ensures;
        accepted = λ o. ap (λ (s : SessionBook). told_at s o) c.new.ensures ∙ no_rows c.unwrap-row.result.items row.1 o;
      })),
    )
