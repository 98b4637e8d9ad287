-- What does not run is skipped.
use Rattle.std.proofs.Common.{◌≡◌, ◌∙◌, None, refl, sym, ◌++◌, ◌∷◌, [], ap, subst}
use Rattle.smi_journal_entries.specs.declared.entry.ActionEnd.TheVariants.{Skipped}
use Rattle.smi_journal_entries.specs.declared.entry.Entry.TheVariants.{End}
use Rattle.smi_meaning.specs.Legal.{MayFollow}
use Rattle.smi_meaning.specs.Params.{running_at}
use Rattle.smi_audit.proofs.Broken.{end_good, is_none_run}
use Rattle.smi_audit.proofs.Adding.{adds, skip_added}
use Rattle.smi_ledger.specs.Books.{NamesKnown, DiesOnce}
use Rattle.smi_audit.proofs.judge.Judge.skip.Goals as goal

pub returns : goal.returns
returns c =
    let j = c.args.self.now in
    let d = j.books.domain in
    let J = j.books.journal in
    let none : running_at j.format d c.args.o J ≡ None = is_none_run _ (sym c.runs.ensures ∙ c.if-runs.false) in
    let legal : MayFollow j.format d J (End c.args.o Skipped) =
    end_good j.format d J c.args.o Skipped c.requires.open none tt in
    adds _ _ (End c.args.o Skipped) refl refl refl c.requires.kept c.requires.within legal
    c.in_ok-add.ensures.domain
    (c.in_ok-add.ensures.journal ∙ ap (λ e. J ++ e ∷ []) c.requires.is)
    (skip_added j.format d J j.tracks.items _ c.args.o c.requires.within c.requires.kept.tracked c.cut_in.ensures)

pub add-requires-clause-known : goal.add-requires-clause-known
add-requires-clause-known c = subst (NamesKnown c.args.self.now.books.domain) (sym c.requires.is) c.requires.within

pub add-requires-clause-once : goal.add-requires-clause-once
add-requires-clause-once c = subst (DiesOnce c.args.self.now.books.journal) (sym c.requires.is) tt
