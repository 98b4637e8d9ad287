-- The posts can be sent, and leave journal and mail tied.
use Rattle.std.proofs.Common.{◌≡◌, ◌<◌, ◌∙◌, List, All, true, length, map, ap, subst, sym}
use Rattle.std.specs.Arc.{arc_value}
use Rattle.sml_domain.specs.Domain.{Domain}
use Rattle.sml_domain.specs.Sound.{IsSound}
use Rattle.sml_domain.specs.Trees.{target}
use Rattle.smi_journal_entries.specs.Sets.{AreOf, sets_after}
use Rattle.smi_journal_entries.specs.declared.entry.Sender.TheVariants.{Object}
use Rattle.smi_journal_entries.specs.declared.entry.Verdict.{Verdict}
use Rattle.smi_meaning.specs.Items.{Post}
use Rattle.smi_interp.specs.Turn.{TurnView}
use Rattle.smi_interp.specs.Expanded.{Send}
use Rattle.smi_interp.specs.Task.{LeftAsks, with_verdicts}
use Rattle.smi_board.specs.Boards.{BoardView, IsTied}
use Rattle.smi_board.specs.Posting.{AreApart, AreJudged, IsPostable, Lists, ParcelView, parcel_of, post_of_parcel}
use Rattle.smi_board.specs.Rings.{RingView}
use Rattle.smi_board.specs.Turns.{IsOut}
use Rattle.smi_board.proofs.Sent.{judged_long, keeps_sent, parcels_are, parcels_by, parcels_sent_by, posts_of_parcels, sendable_at, targets_there, wants_verdicts}
use Rattle.smi_board.proofs.StillHeld.{placed_sent}
use Rattle.smi_board.proofs.board.Board.post_out.Goals as goal

pub make_sending-requires-clause-targets : goal.make_sending-requires-clause-targets
make_sending-requires-clause-targets g c =
    let i = c.self.inside in
    let d = arc_value i.domain in
    let t = c.args.task in
    let posts = c.args.posts.now in
    let view = sym c.self.view_is in
    let same : t.domain ≡ d = subst (λ (b : BoardView _). t.domain ≡ b.domain) view c.requires.domain in
    let within : t.turn.object < length d.objects = subst (λ (b : BoardView _). t.turn.object < length b.domain.objects) view c.requires.within in
    let out : IsOut d i.ledger.journal i.params.items i.kept.items t.turn = subst (λ (b : BoardView _). IsOut b.domain b.journal b.params b.kept t.turn) view c.requires.out in
    let to = target c.args.target in
    let now : c.args.by ≡ sets_after d i.ledger.journal = subst (λ (b : BoardView _). c.args.by ≡ sets_after b.domain b.journal) view c.requires.by in
    let asks : LeftAsks t (sets_after t.domain i.ledger.journal) (Send to posts) = subst (λ s. LeftAsks t s (Send to posts)) (now ∙ ap (λ x. sets_after x i.ledger.journal) (sym same)) c.requires.asks in
    let sound : IsSound d = subst (λ x. IsSound x) c.deref.ensures c.objects-sound.ensures.sound in
    let are : AreOf d (sets_after d i.ledger.journal) = subst (λ x. AreOf x (sets_after x i.ledger.journal)) c.self.invariant.3 (subst (AreOf i.ledger.domain) c.sets-sets.ensures.is c.sets-sets.ensures.are) in
    let can = sendable_at d t i.ledger.journal i.params.items i.kept.items _ _ _ to posts same are sound c.self.invariant.0 c.self.invariant.1 c.self.invariant.2 within out asks in
    subst (λ (x : Domain). All (λ (p : Post). p.target < length x.objects) posts) (sym c.self.invariant.4) (targets_there d posts can.postable)

pub wake_all-requires : goal.wake_all-requires
wake_all-requires g c =
    let i = c.self.inside in
    let d = arc_value i.domain in
    let t = c.args.task in
    let posts = c.args.posts.now in
    let view = sym c.self.view_is in
    let same : t.domain ≡ d = subst (λ (b : BoardView _). t.domain ≡ b.domain) view c.requires.domain in
    let within : t.turn.object < length d.objects = subst (λ (b : BoardView _). t.turn.object < length b.domain.objects) view c.requires.within in
    let out : IsOut d i.ledger.journal i.params.items i.kept.items t.turn = subst (λ (b : BoardView _). IsOut b.domain b.journal b.params b.kept t.turn) view c.requires.out in
    let to = target c.args.target in
    let now : c.args.by ≡ sets_after d i.ledger.journal = subst (λ (b : BoardView _). c.args.by ≡ sets_after b.domain b.journal) view c.requires.by in
    let asks : LeftAsks t (sets_after t.domain i.ledger.journal) (Send to posts) = subst (λ s. LeftAsks t s (Send to posts)) (now ∙ ap (λ x. sets_after x i.ledger.journal) (sym same)) c.requires.asks in
    let sound : IsSound d = subst (λ x. IsSound x) c.deref.ensures c.objects-sound.ensures.sound in
    let are : AreOf d (sets_after d i.ledger.journal) = subst (λ x. AreOf x (sets_after x i.ledger.journal)) c.self.invariant.3 (subst (AreOf i.ledger.domain) c.sets-sets.ensures.is c.sets-sets.ensures.are) in
    let can = sendable_at d t i.ledger.journal i.params.items i.kept.items _ _ _ to posts same are sound c.self.invariant.0 c.self.invariant.1 c.self.invariant.2 within out asks in
    subst (λ n. All (λ (p : Post). p.target < n) posts) (sym c.self.invariant.6) (targets_there d posts can.postable)

pub post_all-verdicts-requires-clause-senders : goal.post_all-verdicts-requires-clause-senders
post_all-verdicts-requires-clause-senders g c =
    let o = c.turn.result.now.object in
    subst (λ ps. All (λ (p : ParcelView). p.sender ≡ Object o) ps) (sym c.in-Ok.ensures.list) (parcels_sent_by o c.args.by c.args.posts.now)

pub post_all-verdicts-requires-clause-sets : goal.post_all-verdicts-requires-clause-sets
post_all-verdicts-requires-clause-sets g c =
    let i = c.self.inside in
    let d = arc_value i.domain in
    let l = c.make_sending.new.ledger in
    let now : c.args.by ≡ sets_after d i.ledger.journal = subst (λ (b : BoardView _). c.args.by ≡ sets_after b.domain b.journal) (sym c.self.view_is) c.requires.by in
    let same : c.args.by ≡ sets_after l.domain l.journal =
    now ∙ ap (λ x. sets_after x i.ledger.journal) (sym (c.in-Ok.ensures.books ∙ c.self.invariant.3)) ∙ ap (sets_after l.domain) (sym c.in-Ok.ensures.journal) in
    subst (λ s. All (λ (p : ParcelView). p.sets ≡ s) c.in-Ok.sending.list.items) same
    (subst (λ ps. All (λ (p : ParcelView). p.sets ≡ c.args.by) ps) (sym c.in-Ok.ensures.list) (parcels_by c.turn.result.now.object c.args.by c.args.posts.now))

pub post_all-verdicts-requires-clause-postable : goal.post_all-verdicts-requires-clause-postable
post_all-verdicts-requires-clause-postable g c =
    let i = c.self.inside in
    let d = arc_value i.domain in
    let t = c.args.task in
    let posts = c.args.posts.now in
    let view = sym c.self.view_is in
    let same : t.domain ≡ d = subst (λ (b : BoardView _). t.domain ≡ b.domain) view c.requires.domain in
    let within : t.turn.object < length d.objects = subst (λ (b : BoardView _). t.turn.object < length b.domain.objects) view c.requires.within in
    let out : IsOut d i.ledger.journal i.params.items i.kept.items t.turn = subst (λ (b : BoardView _). IsOut b.domain b.journal b.params b.kept t.turn) view c.requires.out in
    let to = target c.args.target in
    let now : c.args.by ≡ sets_after d i.ledger.journal = subst (λ (b : BoardView _). c.args.by ≡ sets_after b.domain b.journal) view c.requires.by in
    let asks : LeftAsks t (sets_after t.domain i.ledger.journal) (Send to posts) = subst (λ s. LeftAsks t s (Send to posts)) (now ∙ ap (λ x. sets_after x i.ledger.journal) (sym same)) c.requires.asks in
    let sound : IsSound d = subst (λ x. IsSound x) c.deref.ensures c.objects-sound.ensures.sound in
    let are : AreOf d (sets_after d i.ledger.journal) = subst (λ x. AreOf x (sets_after x i.ledger.journal)) c.self.invariant.3 (subst (AreOf i.ledger.domain) c.sets-sets.ensures.is c.sets-sets.ensures.are) in
    let can = sendable_at d t i.ledger.journal i.params.items i.kept.items _ _ _ to posts same are sound c.self.invariant.0 c.self.invariant.1 c.self.invariant.2 within out asks in
    let items : c.in-Ok.sending.list.items ≡ map (parcel_of c.turn.result.now.object c.args.by) posts = c.in-Ok.ensures.list in
    subst (λ (x : Domain). All (λ (p : ParcelView). IsPostable x p.post) c.in-Ok.sending.list.items) (sym (c.in-Ok.ensures.books ∙ c.self.invariant.3))
    (subst (λ ps. All (λ (p : ParcelView). IsPostable d p.post) ps) (sym items) (parcels_are (IsPostable d) c.turn.result.now.object c.args.by posts can.postable))

pub post_all-verdicts-requires-clause-apart : goal.post_all-verdicts-requires-clause-apart
post_all-verdicts-requires-clause-apart g c =
    let i = c.self.inside in
    let d = arc_value i.domain in
    let t = c.args.task in
    let posts = c.args.posts.now in
    let view = sym c.self.view_is in
    let same : t.domain ≡ d = subst (λ (b : BoardView _). t.domain ≡ b.domain) view c.requires.domain in
    let within : t.turn.object < length d.objects = subst (λ (b : BoardView _). t.turn.object < length b.domain.objects) view c.requires.within in
    let out : IsOut d i.ledger.journal i.params.items i.kept.items t.turn = subst (λ (b : BoardView _). IsOut b.domain b.journal b.params b.kept t.turn) view c.requires.out in
    let to = target c.args.target in
    let now : c.args.by ≡ sets_after d i.ledger.journal = subst (λ (b : BoardView _). c.args.by ≡ sets_after b.domain b.journal) view c.requires.by in
    let asks : LeftAsks t (sets_after t.domain i.ledger.journal) (Send to posts) = subst (λ s. LeftAsks t s (Send to posts)) (now ∙ ap (λ x. sets_after x i.ledger.journal) (sym same)) c.requires.asks in
    let sound : IsSound d = subst (λ x. IsSound x) c.deref.ensures c.objects-sound.ensures.sound in
    let are : AreOf d (sets_after d i.ledger.journal) = subst (λ x. AreOf x (sets_after x i.ledger.journal)) c.self.invariant.3 (subst (AreOf i.ledger.domain) c.sets-sets.ensures.is c.sets-sets.ensures.are) in
    let can = sendable_at d t i.ledger.journal i.params.items i.kept.items _ _ _ to posts same are sound c.self.invariant.0 c.self.invariant.1 c.self.invariant.2 within out asks in
    let items : c.in-Ok.sending.list.items ≡ map (parcel_of c.turn.result.now.object c.args.by) posts = c.in-Ok.ensures.list in
    subst AreApart (sym (ap (map post_of_parcel) items ∙ posts_of_parcels c.turn.result.now.object c.args.by posts)) can.apart

pub post_all-verdicts-requires-clause-ready : goal.post_all-verdicts-requires-clause-ready
post_all-verdicts-requires-clause-ready g c =
    let o = c.turn.result.now.object in
    subst (λ ps. All (λ (p : ParcelView). g.M.Mail.ready c.make_sending.new.mail p.post.target ≡ true) ps) (sym c.in-Ok.ensures.list)
    (parcels_are (λ (p : Post). g.M.Mail.ready c.make_sending.new.mail p.target ≡ true) o c.args.by c.args.posts.now c.in-Ok.ensures.ready)

pub sent-requires-clause-waits : goal.sent-requires-clause-waits
sent-requires-clause-waits g c =
    let i = c.self.inside in
    let d = arc_value i.domain in
    let t = c.args.task in
    let posts = c.args.posts.now in
    let view = sym c.self.view_is in
    let same : t.domain ≡ d = subst (λ (b : BoardView _). t.domain ≡ b.domain) view c.requires.domain in
    let within : t.turn.object < length d.objects = subst (λ (b : BoardView _). t.turn.object < length b.domain.objects) view c.requires.within in
    let out : IsOut d i.ledger.journal i.params.items i.kept.items t.turn = subst (λ (b : BoardView _). IsOut b.domain b.journal b.params b.kept t.turn) view c.requires.out in
    let to = target c.args.target in
    let now : c.args.by ≡ sets_after d i.ledger.journal = subst (λ (b : BoardView _). c.args.by ≡ sets_after b.domain b.journal) view c.requires.by in
    let asks : LeftAsks t (sets_after t.domain i.ledger.journal) (Send to posts) = subst (λ s. LeftAsks t s (Send to posts)) (now ∙ ap (λ x. sets_after x i.ledger.journal) (sym same)) c.requires.asks in
    let items : c.in-Ok.sending.list.items ≡ map (parcel_of c.turn.result.now.object c.args.by) posts = c.in-Ok.ensures.list in
    let o = c.turn.result.now.object in
    let at : o ≡ t.turn.object = ap (λ (x : TurnView). x.object) c.turn.ensures.is in
    let before : Lists = record { taken = g.M.Mail.taken i.mail; sent = g.M.Mail.sent i.mail; waiting = g.M.Mail.waiting i.mail; capacity = g.M.Mail.capacity i.mail } in
    let after : Lists = record { taken = g.M.Mail.taken c.post_all-verdicts.new.mail; sent = g.M.Mail.sent c.post_all-verdicts.new.mail; waiting = g.M.Mail.waiting c.post_all-verdicts.new.mail; capacity = g.M.Mail.capacity c.post_all-verdicts.new.mail } in
    let J2 = c.post_all-verdicts.new.ledger.journal in
    let vs = c.post_all-verdicts.result.items in
    let one : AreJudged o before c.make_sending.new.ledger.journal (map post_of_parcel c.in-Ok.sending.list.items) vs after J2 =
    subst (λ m. AreJudged o m c.make_sending.new.ledger.journal (map post_of_parcel c.in-Ok.sending.list.items) vs after J2) c.in-Ok.ensures.lists c.post_all-verdicts.ensures.judged in
    let judged : AreJudged t.turn.object before i.ledger.journal posts vs after J2 =
    subst (λ x. AreJudged x before i.ledger.journal posts vs after J2) at
    (subst (λ ps. AreJudged o before i.ledger.journal ps vs after J2) (ap (map post_of_parcel) items ∙ posts_of_parcels o c.args.by posts)
    (subst (λ K. AreJudged o before K (map post_of_parcel c.in-Ok.sending.list.items) vs after J2) c.in-Ok.ensures.journal one)) in
    let long : length c.deref-2.result.now ≡ length posts = ap length c.deref-2.ensures.value ∙ judged_long t.turn.object before after i.ledger.journal J2 posts vs judged in
    wants_verdicts t.domain c.args.by to posts (length c.deref-2.result.now) t.pending c.requires.waits long

pub invariant_of-self-2 : goal.invariant_of-self-2
invariant_of-self-2 g c =
    let i = c.self.inside in
    let d = arc_value i.domain in
    let t = c.args.task in
    let posts = c.args.posts.now in
    let view = sym c.self.view_is in
    let same : t.domain ≡ d = subst (λ (b : BoardView _). t.domain ≡ b.domain) view c.requires.domain in
    let within : t.turn.object < length d.objects = subst (λ (b : BoardView _). t.turn.object < length b.domain.objects) view c.requires.within in
    let out : IsOut d i.ledger.journal i.params.items i.kept.items t.turn = subst (λ (b : BoardView _). IsOut b.domain b.journal b.params b.kept t.turn) view c.requires.out in
    let to = target c.args.target in
    let now : c.args.by ≡ sets_after d i.ledger.journal = subst (λ (b : BoardView _). c.args.by ≡ sets_after b.domain b.journal) view c.requires.by in
    let asks : LeftAsks t (sets_after t.domain i.ledger.journal) (Send to posts) = subst (λ s. LeftAsks t s (Send to posts)) (now ∙ ap (λ x. sets_after x i.ledger.journal) (sym same)) c.requires.asks in
    let items : c.in-Ok.sending.list.items ≡ map (parcel_of c.turn.result.now.object c.args.by) posts = c.in-Ok.ensures.list in
    let o = c.turn.result.now.object in
    let at : o ≡ t.turn.object = ap (λ (x : TurnView). x.object) c.turn.ensures.is in
    let before : Lists = record { taken = g.M.Mail.taken i.mail; sent = g.M.Mail.sent i.mail; waiting = g.M.Mail.waiting i.mail; capacity = g.M.Mail.capacity i.mail } in
    let after : Lists = record { taken = g.M.Mail.taken c.post_all-verdicts.new.mail; sent = g.M.Mail.sent c.post_all-verdicts.new.mail; waiting = g.M.Mail.waiting c.post_all-verdicts.new.mail; capacity = g.M.Mail.capacity c.post_all-verdicts.new.mail } in
    let J2 = c.post_all-verdicts.new.ledger.journal in
    let vs = c.post_all-verdicts.result.items in
    let one : AreJudged o before c.make_sending.new.ledger.journal (map post_of_parcel c.in-Ok.sending.list.items) vs after J2 =
    subst (λ m. AreJudged o m c.make_sending.new.ledger.journal (map post_of_parcel c.in-Ok.sending.list.items) vs after J2) c.in-Ok.ensures.lists c.post_all-verdicts.ensures.judged in
    let judged : AreJudged t.turn.object before i.ledger.journal posts vs after J2 =
    subst (λ x. AreJudged x before i.ledger.journal posts vs after J2) at
    (subst (λ ps. AreJudged o before i.ledger.journal ps vs after J2) (ap (map post_of_parcel) items ∙ posts_of_parcels o c.args.by posts)
    (subst (λ K. AreJudged o before K (map post_of_parcel c.in-Ok.sending.list.items) vs after J2) c.in-Ok.ensures.journal one)) in
    let alike = c.post_all-verdicts.ensures.serves ∙ c.in-Ok.ensures.serves in
    let keeps = keeps_sent d t i.ledger.journal J2 i.params.items i.kept.items (g.M.Mail.serves i.mail) before after to posts vs same c.requires.some c.self.invariant.0 c.self.invariant.1 c.self.invariant.2 within out asks judged in (
      subst (λ f. IsTied d J2 i.params.items f after.taken after.sent) (sym alike) keeps.tied,
      keeps.all.runs,
      keeps.all.tasks,
      c.post_all-verdicts.ensures.books ∙ c.in-Ok.ensures.books ∙ c.self.invariant.3,
      c.post_all-verdicts.ensures.domain ∙ c.in-Ok.ensures.domain ∙ c.self.invariant.4,
      placed_sent d i.ledger.journal J2 i.kept.items i.candidates.list i.holders t.turn.object before after posts vs c.self.invariant.0.legal judged c.self.invariant.5,
      ap (λ (r : RingView). r.places) c.wake_all.ensures ∙ c.self.invariant.6,
      c.self.invariant.7,
      c.self.invariant.8,
    )

pub returns-clause-sent : goal.returns-clause-sent
returns-clause-sent g c =
    let i = c.self.inside in
    let d = arc_value i.domain in
    let t = c.args.task in
    let posts = c.args.posts.now in
    let view = sym c.self.view_is in
    let same : t.domain ≡ d = subst (λ (b : BoardView _). t.domain ≡ b.domain) view c.requires.domain in
    let within : t.turn.object < length d.objects = subst (λ (b : BoardView _). t.turn.object < length b.domain.objects) view c.requires.within in
    let out : IsOut d i.ledger.journal i.params.items i.kept.items t.turn = subst (λ (b : BoardView _). IsOut b.domain b.journal b.params b.kept t.turn) view c.requires.out in
    let to = target c.args.target in
    let now : c.args.by ≡ sets_after d i.ledger.journal = subst (λ (b : BoardView _). c.args.by ≡ sets_after b.domain b.journal) view c.requires.by in
    let asks : LeftAsks t (sets_after t.domain i.ledger.journal) (Send to posts) = subst (λ s. LeftAsks t s (Send to posts)) (now ∙ ap (λ x. sets_after x i.ledger.journal) (sym same)) c.requires.asks in
    let items : c.in-Ok.sending.list.items ≡ map (parcel_of c.turn.result.now.object c.args.by) posts = c.in-Ok.ensures.list in
    let o = c.turn.result.now.object in
    let at : o ≡ t.turn.object = ap (λ (x : TurnView). x.object) c.turn.ensures.is in
    let before : Lists = record { taken = g.M.Mail.taken i.mail; sent = g.M.Mail.sent i.mail; waiting = g.M.Mail.waiting i.mail; capacity = g.M.Mail.capacity i.mail } in
    let after : Lists = record { taken = g.M.Mail.taken c.post_all-verdicts.new.mail; sent = g.M.Mail.sent c.post_all-verdicts.new.mail; waiting = g.M.Mail.waiting c.post_all-verdicts.new.mail; capacity = g.M.Mail.capacity c.post_all-verdicts.new.mail } in
    let J2 = c.post_all-verdicts.new.ledger.journal in
    let vs = c.post_all-verdicts.result.items in
    let one : AreJudged o before c.make_sending.new.ledger.journal (map post_of_parcel c.in-Ok.sending.list.items) vs after J2 =
    subst (λ m. AreJudged o m c.make_sending.new.ledger.journal (map post_of_parcel c.in-Ok.sending.list.items) vs after J2) c.in-Ok.ensures.lists c.post_all-verdicts.ensures.judged in
    let judged : AreJudged t.turn.object before i.ledger.journal posts vs after J2 =
    subst (λ x. AreJudged x before i.ledger.journal posts vs after J2) at
    (subst (λ ps. AreJudged o before i.ledger.journal ps vs after J2) (ap (map post_of_parcel) items ∙ posts_of_parcels o c.args.by posts)
    (subst (λ K. AreJudged o before K (map post_of_parcel c.in-Ok.sending.list.items) vs after J2) c.in-Ok.ensures.journal one)) in
    subst (λ (b : BoardView _). (ws : List Verdict) × (c.sent.new.self ≡ with_verdicts t ws c.args.by) × AreJudged t.turn.object
    (record { taken = g.M.Mail.taken b.mail; sent = g.M.Mail.sent b.mail; waiting = g.M.Mail.waiting b.mail; capacity = g.M.Mail.capacity b.mail }) b.journal posts ws after J2) c.self.view_is
    (vs, c.sent.ensures ∙ ap (λ ws. with_verdicts t ws c.args.by) c.deref-2.ensures.value, judged)
