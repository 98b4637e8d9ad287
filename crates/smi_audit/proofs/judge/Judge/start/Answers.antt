-- What was started is followed.
use Rattle.std.proofs.Common.{refl, sym, ◌∙◌, ◌++◌, ◌∷◌, [], ap, subst}
use Rattle.smi_journal_entries.specs.declared.entry.Entry.TheVariants.{Start}
use Rattle.smi_audit.proofs.Adding.{adds, start_added_as}
use Rattle.smi_ledger.specs.Books.{NamesKnown, DiesOnce}
use Rattle.smi_audit.proofs.judge.Judge.start.Goals as goal

pub returns : goal.returns
returns c =
    let j = c.args.self.now in
    let d = j.books.domain in
    let J = j.books.journal in
    adds _ _ (Start c.args.o c.args.sender.now c.args.number c.args.action c.args.args.now) refl refl refl
    c.requires.kept c.requires.within c.in-None.ensures c.in_ok-add.ensures.domain
    (c.in_ok-add.ensures.journal ∙ ap (λ e. J ++ e ∷ []) c.requires.is)
    (start_added_as j.format d _ J j.tracks.items _ c.args.o _ c.in_ok-followed.followed _ c.in_ok-followed.ensures
    c.requires.within (sym c.requires.kept.domain) c.state-state.ensures c.requires.kept.tracked
    c.in_ok-start_in.ensures)

pub add-requires-clause-known : goal.add-requires-clause-known
add-requires-clause-known c = subst (NamesKnown c.args.self.now.books.domain) (sym c.requires.is) (c.requires.within, c.requires.known)

pub add-requires-clause-once : goal.add-requires-clause-once
add-requires-clause-once c = subst (DiesOnce c.args.self.now.books.journal) (sym c.requires.is) tt
