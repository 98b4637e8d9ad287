-- That there is nobody to post to is noted, and leaves journal and mail tied.
use Rattle.std.proofs.Common.{◌≡◌, ◌<◌, ◌++◌, ◌∷◌, ◌∙◌, [], length, ap, refl, subst, sym}
use Rattle.std.specs.Arc.{arc_value}
use Rattle.sml_domain.specs.Program.{ToMembers}
use Rattle.sml_domain.specs.Trees.{target}
use Rattle.smi_journal_entries.specs.Sets.{sets_after}
use Rattle.smi_journal_entries.specs.declared.entry.Entry.TheVariants.{NoMember}
use Rattle.smi_ledger.specs.Views.{LedgerView}
use Rattle.smi_interp.specs.Expanded.{Send}
use Rattle.smi_interp.specs.Task.{LeftAsks}
use Rattle.smi_interp.specs.Turn.{TurnView}
use Rattle.smi_board.specs.Boards.{BoardView}
use Rattle.smi_board.specs.Turns.{IsOut}
use Rattle.smi_board.proofs.Changed.{keeps_nobody}
use Rattle.smi_board.proofs.Held.{placed_quiet}
use Rattle.smi_board.proofs.board.Board.send_nobody.Goals as goal

pub invariant_of-self-in-Members-1 : goal.invariant_of-self-in-Members-1
invariant_of-self-in-Members-1 g c =
    let i = c.self.inside in
    let d = arc_value i.domain in
    let t = c.args.task in
    let J = i.ledger.journal in
    let set = c.in-Members.set in
    let o = c.turn.result.now.object in
    let at : o ≡ t.turn.object = ap (λ (x : TurnView). x.object) c.turn.ensures.is in
    let view = sym c.self.view_is in
    let same : t.domain ≡ d = subst (λ (b : BoardView _). t.domain ≡ b.domain) view c.requires.domain in
    let within : t.turn.object < length d.objects = subst (λ (b : BoardView _). t.turn.object < length b.domain.objects) view c.requires.within in
    let out : IsOut d J i.params.items i.kept.items t.turn = subst (λ (b : BoardView _). IsOut b.domain b.journal b.params b.kept t.turn) view c.requires.out in
    let now : c.args.by ≡ sets_after d J = subst (λ (b : BoardView _). c.args.by ≡ sets_after b.domain b.journal) view c.requires.by in
    let to : target c.args.target ≡ ToMembers set = ap target c.in-Members.is in
    let asks : LeftAsks t (sets_after t.domain J) (Send (ToMembers set) []) =
    subst (λ x. LeftAsks t (sets_after t.domain J) (Send x [])) to (subst (λ s. LeftAsks t s (Send (target c.args.target) [])) (now ∙ ap (λ x. sets_after x J) (sym same)) c.requires.asks) in
    let longer : c.add_none.new.self.journal ≡ J ++ NoMember t.turn.object set ∷ [] =
    ap (λ (l : LedgerView). l.journal) c.add_none.ensures ∙ ap (λ K. K ++ NoMember o set ∷ []) c.in-Ok.ensures.journal ∙ ap (λ x. J ++ NoMember x set ∷ []) at in
    let keeps = keeps_nobody d t J c.add_none.new.self.journal i.params.items i.kept.items _ _ _ set same c.self.invariant.0 c.self.invariant.1 c.self.invariant.2 within out asks longer in
    let placed = placed_quiet d J c.add_none.new.self.journal i.kept.items i.candidates.list i.holders (NoMember t.turn.object set) longer refl refl (λ x. refl) (λ x. refl) refl c.self.invariant.5 in
    (keeps.tied, keeps.all.runs, keeps.all.tasks, ap (λ (l : LedgerView). l.domain) c.add_none.ensures ∙ c.in-Ok.ensures.books ∙ c.self.invariant.3, c.self.invariant.4, placed, c.self.invariant.6, c.self.invariant.7, c.self.invariant.8)
