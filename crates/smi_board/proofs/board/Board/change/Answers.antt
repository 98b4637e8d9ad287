-- Whom the change is of is there, and it leaves journal and mail tied.
use Rattle.std.proofs.Common.{◌≡◌, ◌<◌, ◌++◌, ◌∷◌, ◌∙◌, [], length, ap, subst, sym}
use Rattle.std.specs.Arc.{arc_value}
use Rattle.sml_domain.specs.Domain.{Domain}
use Rattle.sml_domain.specs.Sound.{IsSound}
use Rattle.smi_journal_entries.specs.declared.entry.Entry.TheVariants.{Insert, Remove}
use Rattle.smi_ledger.specs.Views.{LedgerView}
use Rattle.smi_interp.specs.Turn.{TurnView}
use Rattle.smi_board.specs.Boards.{BoardView}
use Rattle.smi_board.specs.Turns.{IsOut}
use Rattle.smi_board.proofs.Changed.{keeps_changed, member_there}
use Rattle.smi_board.proofs.Held.{placed_changed}
use Rattle.smi_board.proofs.board.Board.change.Goals as goal
use Rattle.smi_journal_entries.specs.Words.{change_entry}

pub free_all-requires-clause-within : goal.free_all-requires-clause-within
free_all-requires-clause-within g c =
    let i = c.self.inside in
    let d = arc_value i.domain in
    let t = c.args.task in
    let J = i.ledger.journal in
    let view = sym c.self.view_is in
    let same : t.domain ≡ d = subst (λ (b : BoardView _). t.domain ≡ b.domain) view c.requires.domain in
    let within : t.turn.object < length d.objects = subst (λ (b : BoardView _). t.turn.object < length b.domain.objects) view c.requires.within in
    let out : IsOut d J i.params.items i.kept.items t.turn = subst (λ (b : BoardView _). IsOut b.domain b.journal b.params b.kept t.turn) view c.requires.out in
    let sound : IsSound d = subst (λ x. IsSound x) c.deref.ensures c.objects-sound.ensures.sound in
    let there = member_there d t J i.params.items i.kept.items _ _ _ c.args.add c.args.member c.args.set same sound c.self.invariant.0 c.self.invariant.1 c.self.invariant.2 within out c.requires.names in
    subst (λ n. c.args.member < n) (sym c.self.invariant.7) there

pub add_insert-requires-clause-member : goal.add_insert-requires-clause-member
add_insert-requires-clause-member g c =
    let i = c.self.inside in
    let d = arc_value i.domain in
    let t = c.args.task in
    let J = i.ledger.journal in
    let view = sym c.self.view_is in
    let same : t.domain ≡ d = subst (λ (b : BoardView _). t.domain ≡ b.domain) view c.requires.domain in
    let within : t.turn.object < length d.objects = subst (λ (b : BoardView _). t.turn.object < length b.domain.objects) view c.requires.within in
    let out : IsOut d J i.params.items i.kept.items t.turn = subst (λ (b : BoardView _). IsOut b.domain b.journal b.params b.kept t.turn) view c.requires.out in
    let sound : IsSound d = subst (λ x. IsSound x) c.deref.ensures c.objects-sound.ensures.sound in
    let there = member_there d t J i.params.items i.kept.items _ _ _ c.args.add c.args.member c.args.set same sound c.self.invariant.0 c.self.invariant.1 c.self.invariant.2 within out c.requires.names in
    subst (λ (x : Domain). c.args.member < length x.objects) (sym (c.in-Ok-hold_shown.ensures.books ∙ c.self.invariant.3)) there

pub add_remove-requires-clause-member : goal.add_remove-requires-clause-member
add_remove-requires-clause-member g c =
    let i = c.self.inside in
    let d = arc_value i.domain in
    let t = c.args.task in
    let J = i.ledger.journal in
    let view = sym c.self.view_is in
    let same : t.domain ≡ d = subst (λ (b : BoardView _). t.domain ≡ b.domain) view c.requires.domain in
    let within : t.turn.object < length d.objects = subst (λ (b : BoardView _). t.turn.object < length b.domain.objects) view c.requires.within in
    let out : IsOut d J i.params.items i.kept.items t.turn = subst (λ (b : BoardView _). IsOut b.domain b.journal b.params b.kept t.turn) view c.requires.out in
    let sound : IsSound d = subst (λ x. IsSound x) c.deref.ensures c.objects-sound.ensures.sound in
    let there = member_there d t J i.params.items i.kept.items _ _ _ c.args.add c.args.member c.args.set same sound c.self.invariant.0 c.self.invariant.1 c.self.invariant.2 within out c.requires.names in
    subst (λ (x : Domain). c.args.member < length x.objects) (sym (c.in-Ok-hold_shown.ensures.books ∙ c.self.invariant.3)) there

pub invariant_of-self-then-add : goal.invariant_of-self-then-add
invariant_of-self-then-add g c =
    let i = c.self.inside in
    let d = arc_value i.domain in
    let t = c.args.task in
    let J = i.ledger.journal in
    let view = sym c.self.view_is in
    let same : t.domain ≡ d = subst (λ (b : BoardView _). t.domain ≡ b.domain) view c.requires.domain in
    let within : t.turn.object < length d.objects = subst (λ (b : BoardView _). t.turn.object < length b.domain.objects) view c.requires.within in
    let out : IsOut d J i.params.items i.kept.items t.turn = subst (λ (b : BoardView _). IsOut b.domain b.journal b.params b.kept t.turn) view c.requires.out in
    let member = c.args.member in
    let set = c.args.set in
    let o = c.turn.result.now.object in
    let at : o ≡ t.turn.object = ap (λ (x : TurnView). x.object) c.turn.ensures.is in
    let longer : c.add_insert.new.self.journal ≡ J ++ change_entry t.turn.object c.args.add member set ∷ [] =
    ap (λ (l : LedgerView). l.journal) c.add_insert.ensures ∙ ap (λ K. K ++ Insert o member set ∷ []) c.in-Ok-hold_shown.ensures.journal
    ∙ ap (λ x. J ++ Insert x member set ∷ []) at ∙ ap (λ add. J ++ change_entry t.turn.object add member set ∷ []) (sym c.if-add.true) in
    let keeps = keeps_changed d t J c.add_insert.new.self.journal i.params.items i.kept.items _ _ _ c.args.add member set same c.self.invariant.0 c.self.invariant.1 c.self.invariant.2 within out c.requires.names longer in
    let placed = placed_changed d J c.add_insert.new.self.journal i.kept.items i.candidates.list c.free_all.new.candidates.list i.holders c.free_all.new.holders t.turn.object c.args.add member set longer c.free_all.ensures.each c.self.invariant.5 in
    (keeps.tied, keeps.all.runs, keeps.all.tasks, ap (λ (l : LedgerView). l.domain) c.add_insert.ensures ∙ c.in-Ok-hold_shown.ensures.books ∙ c.self.invariant.3, c.self.invariant.4, placed, c.self.invariant.6, c.free_all.ensures.listed ∙ c.self.invariant.7, c.free_all.ensures.places ∙ c.self.invariant.8)

pub invariant_of-self-else-add : goal.invariant_of-self-else-add
invariant_of-self-else-add g c =
    let i = c.self.inside in
    let d = arc_value i.domain in
    let t = c.args.task in
    let J = i.ledger.journal in
    let view = sym c.self.view_is in
    let same : t.domain ≡ d = subst (λ (b : BoardView _). t.domain ≡ b.domain) view c.requires.domain in
    let within : t.turn.object < length d.objects = subst (λ (b : BoardView _). t.turn.object < length b.domain.objects) view c.requires.within in
    let out : IsOut d J i.params.items i.kept.items t.turn = subst (λ (b : BoardView _). IsOut b.domain b.journal b.params b.kept t.turn) view c.requires.out in
    let member = c.args.member in
    let set = c.args.set in
    let o = c.turn.result.now.object in
    let at : o ≡ t.turn.object = ap (λ (x : TurnView). x.object) c.turn.ensures.is in
    let longer : c.add_remove.new.self.journal ≡ J ++ change_entry t.turn.object c.args.add member set ∷ [] =
    ap (λ (l : LedgerView). l.journal) c.add_remove.ensures ∙ ap (λ K. K ++ Remove o member set ∷ []) c.in-Ok-hold_shown.ensures.journal
    ∙ ap (λ x. J ++ Remove x member set ∷ []) at ∙ ap (λ add. J ++ change_entry t.turn.object add member set ∷ []) (sym c.if-add.false) in
    let keeps = keeps_changed d t J c.add_remove.new.self.journal i.params.items i.kept.items _ _ _ c.args.add member set same c.self.invariant.0 c.self.invariant.1 c.self.invariant.2 within out c.requires.names longer in
    let placed = placed_changed d J c.add_remove.new.self.journal i.kept.items i.candidates.list c.free_all.new.candidates.list i.holders c.free_all.new.holders t.turn.object c.args.add member set longer c.free_all.ensures.each c.self.invariant.5 in
    (keeps.tied, keeps.all.runs, keeps.all.tasks, ap (λ (l : LedgerView). l.domain) c.add_remove.ensures ∙ c.in-Ok-hold_shown.ensures.books ∙ c.self.invariant.3, c.self.invariant.4, placed, c.self.invariant.6, c.free_all.ensures.listed ∙ c.self.invariant.7, c.free_all.ensures.places ∙ c.self.invariant.8)
