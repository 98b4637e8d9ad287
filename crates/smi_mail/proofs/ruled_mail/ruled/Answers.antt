use Rattle.std.proofs.Common.{◌∙◌, ap, sym, subst, arith, refl, ℕ, get_or}
use Rattle.std.specs.Arc.{arc_value}
use Rattle.std.proofs.lemmas.List.{length_push}
use Rattle.std.proofs.lemmas.Option.{slice_get_read}
use Rattle.std.proofs.lemmas.Iterator.Adapters.{YieldsList-from_vec}
use Rattle.std.proofs.lemmas.Iterator.Consumers.{YieldsList-turn, YieldsList-end}
use Rattle.smi_mail.specs.Mails.{AreSessions, MailboxesSide}
use Rattle.smi_mail.proofs.Opening.{row_named, mail_opened, fresh_more}
use Rattle.smi_mail.proofs.Ordering.{fresh_all}
use Rattle.smi_mail.proofs.ruled_mail.ruled.Goals as goal

pub invariant_of-push_reserved : goal.invariant_of-push_reserved
invariant_of-push_reserved g c =
    let i = c.loop-row.invariant in
    let m = c.boxes.inside in
    let given = c.into_iter-row-iterator.ensures.into_iter_gives in
    let t = YieldsList-turn (YieldsList-from_vec {s = c.into_iter-row-iterator.result} m.sessions.items given.0 (omega (arith, given.1, m.sessions.ok.0))) c.loop-row.yielded c.loop-row.row-iterator c.loop-row.yielded_by c.next.result c.next.new.self c.in-Some.row c.in-Some.is c.next.ensures.steps in
    let at = slice_get_read m.sessions.items _ c.loop-row.session c.in-Some.row refl (omega (arith, t.0, i.0)) (t.1 ∙ ap (λ (k : ℕ). get_or m.sessions.items k c.in-Some.row) (sym i.0)) in
    let opened = c.boxes.invariant.each c.loop-row.session c.in-Some.row at in
    let is = c.requires ∙ sym c.boxes.view_is in
    let row = row_named _ _ _ _ m.board.items c.in-Some.row.items _ c.boxes.invariant.boards opened (ap (λ (v : MailboxesSide). v.mailboxes) is) in
    subst (λ (v : MailboxesSide). AreSessions v.domain v.capacity c.session_of.result g.K.MailNames.names.mailboxes c.in-Some.row.items) (sym is) (subst (λ k. AreSessions (arc_value m.domain) m.capacity k g.K.MailNames.names.mailboxes c.in-Some.row.items) (sym c.session_of.ensures) row.0)

pub loop-row-preserved : goal.loop-row-preserved
loop-row-preserved g c =
    let i = c.loop-row.invariant in
    let m = c.boxes.inside in
    let given = c.into_iter-row-iterator.ensures.into_iter_gives in
    let t = YieldsList-turn (YieldsList-from_vec {s = c.into_iter-row-iterator.result} m.sessions.items given.0 (omega (arith, given.1, m.sessions.ok.0))) c.loop-row.yielded c.loop-row.row-iterator c.loop-row.yielded_by c.next.result c.next.new.self c.in-Some.row c.in-Some.is c.next.ensures.steps in
    let at = slice_get_read m.sessions.items _ c.loop-row.session c.in-Some.row refl (omega (arith, t.0, i.0)) (t.1 ∙ ap (λ (k : ℕ). get_or m.sessions.items k c.in-Some.row) (sym i.0)) in
    let opened = c.boxes.invariant.each c.loop-row.session c.in-Some.row at in
    let row = row_named _ _ _ _ m.board.items c.in-Some.row.items _ c.boxes.invariant.boards opened refl in
    let long = length_push c.loop-row.yielded c.in-Some.row in (
      omega (arith, i.0),
      omega (arith, c.push_reserved.ensures.len, i.1),
      c.push_reserved.ensures.capacity ∙ i.2,
      rw c.push_reserved.ensures.items (fresh_more c.loop-row.ends.items _ i.3 (omega (arith, i.1, c.loop-row.ends.ok.0)) row.1),
    )

pub returns-clause-taken : goal.returns-clause-taken
returns-clause-taken g c = λ o. (mail_opened _ _ _ c.boxes.inside.board.items c.boxes.invariant.boards o).0

pub returns-clause-sent : goal.returns-clause-sent
returns-clause-sent g c = λ s o. (mail_opened _ _ _ c.boxes.inside.board.items c.boxes.invariant.boards o).1 s

pub returns-clause-all : goal.returns-clause-all
returns-clause-all g c =
    let i = c.loop-row.invariant in
    let m = c.boxes.inside in
    let given = c.into_iter-row-iterator.ensures.into_iter_gives in
    let t = YieldsList-end (YieldsList-from_vec {s = c.into_iter-row-iterator.result} m.sessions.items given.0 (omega (arith, given.1, m.sessions.ok.0))) c.loop-row.yielded c.loop-row.row-iterator c.loop-row.yielded_by c.next.result c.next.new.self c.in-None.is c.next.ensures.steps in
    let is = ap (λ (v : MailboxesSide). v.sessions) (c.requires ∙ sym c.boxes.view_is) in
    fresh_all _ c.loop-row.ends.items i.3 (omega (arith, i.0, i.1, c.loop-row.ends.ok.0, t.1) ∙ sym is)
