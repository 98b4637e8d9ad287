-- For whom a task waits: those whom its next `if` or `wait` names are there.
use Rattle.std.proofs.Common.{◌≡◌, ◌<◌, ◌∙◌, All, length, ap, subst, sym}
use Rattle.std.proofs.lemmas.Result.{IfOk-weaker}
use Rattle.std.specs.Arc.{arc_value}
use Rattle.sml_domain.specs.Domain.{Domain}
use Rattle.sml_domain.specs.Sound.{IsObject, IsSound}
use Rattle.smi_journal_entries.specs.Sets.{AreOf, sets_after}
use Rattle.smi_interp.specs.Expanded.{objects_by_names}
use Rattle.smi_interp.specs.Turn.{TurnView}
use Rattle.smi_board.specs.Awaiting.{in_the_way}
use Rattle.smi_board.specs.Boards.{BoardView, own_at}
use Rattle.smi_board.specs.Turns.{IsOf}
use Rattle.smi_board.proofs.Ahead.{ahead_at}
use Rattle.smi_board.proofs.board.Board.waits_for.Goals as goal

pub busy_among-requires-clause-there : goal.busy_among-requires-clause-there
busy_among-requires-clause-there g c =
    let i = c.self.inside in
    let d = arc_value i.domain in
    let J = i.ledger.journal in
    let t = c.args.task.now in
    let o = t.turn.object in
    let names = c.in_ok-names.names in
    let within : o < length d.objects = subst (λ (b : BoardView _). o < length b.domain.objects) (sym c.self.view_is) c.requires.within in
    let is : IsOf d J (own_at i.params.items o) o t = subst (λ (b : BoardView _). IsOf b.domain b.journal (own_at b.params o) o t) (sym c.self.view_is) c.requires.own in
    let sound : IsSound d = subst (λ x. IsSound x) c.deref.ensures c.objects-sound.ensures.sound in
    let are : AreOf d (sets_after d J) = subst (λ x. AreOf x (sets_after x J)) c.self.invariant.3 (subst (AreOf i.ledger.domain) c.sets-sets.ensures.is c.sets-sets.ensures.are) in
    let all : All (IsObject d) (objects_by_names d (sets_after d J) names) = ahead_at d o t J i.params.items _ _ _ names are sound c.self.invariant.0 c.self.invariant.1 within is c.in_ok-names.ensures in
    let there : All (λ y. y < length i.ledger.domain.objects) (objects_by_names i.ledger.domain (sets_after i.ledger.domain J) names) =
    subst (λ (x : Domain). All (λ y. y < length x.objects) (objects_by_names x (sets_after x J) names)) (sym c.self.invariant.3) all in
    let found : c.deref-2.result.now ≡ objects_by_names i.ledger.domain (sets_after i.ledger.domain J) names =
    c.deref-2.ensures.value ∙ c.in_ok-objects.ensures ∙ ap (λ x. objects_by_names x c.sets-sets.result.now names) c.domain.ensures.is
    ∙ ap (λ sets. objects_by_names i.ledger.domain sets names) c.sets-sets.ensures.is in
    subst (All (λ y. y < length i.ledger.domain.objects)) (sym found) there

pub returns : goal.returns
returns g c =
    let i = c.self.inside in
    let d = arc_value i.domain in
    let J = i.ledger.journal in
    let t = c.args.task.now in
    let o = t.turn.object in
    let names = c.in_ok-names.names in
    let found : c.deref-2.result.now ≡ objects_by_names i.ledger.domain (sets_after i.ledger.domain J) names =
    c.deref-2.ensures.value ∙ c.in_ok-objects.ensures ∙ ap (λ x. objects_by_names x c.sets-sets.result.now names) c.domain.ensures.is
    ∙ ap (λ sets. objects_by_names i.ledger.domain sets names) c.sets-sets.ensures.is in
    let object : c.turn.result.now.object ≡ o = ap (λ (x : TurnView). x.object) c.turn.ensures.is in
    let here : in_the_way J c.turn.result.now.object c.deref-2.result.now ≡ in_the_way J o (objects_by_names d (sets_after d J) names) =
    ap (λ x. in_the_way J x c.deref-2.result.now) object ∙ ap (in_the_way J o) found
    ∙ ap (λ x. in_the_way J o (objects_by_names x (sets_after x J) names)) c.self.invariant.3 in
    IfOk-weaker c.busy_among.result _ _ (λ busy h. record {
      names = names;
      next = c.in_ok-names.ensures;
      are = h ∙ here ∙ ap (λ (b : BoardView _). in_the_way b.journal o (objects_by_names b.domain (sets_after b.domain b.journal) names)) c.self.view_is;
    }) c.busy_among.ensures
