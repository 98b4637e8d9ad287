-- A kill that breaks no rule is added.
use Rattle.std.proofs.Common.{◌≡◌, ◌∙◌, false, refl, sym, ◌++◌, ◌∷◌, [], ap, subst}
use Rattle.smi_journal_entries.specs.declared.entry.Entry.TheVariants.{Kill}
use Rattle.smi_journal_entries.specs.Words.{is_killed}
use Rattle.smi_meaning.specs.Legal.{MayFollow}
use Rattle.smi_audit.proofs.Broken.{kill_good, holds}
use Rattle.smi_audit.proofs.Adding.{adds, kill_added, never_killed}
use Rattle.smi_ledger.specs.Books.{NamesKnown, DiesOnce}
use Rattle.smi_audit.proofs.judge.Judge.kill.Goals as goal

pub returns : goal.returns
returns c =
    let j = c.args.self.now in
    let d = j.books.domain in
    let J = j.books.journal in
    let alive : is_killed c.args.o J ≡ false = sym c.is_killed.ensures ∙ c.if-is_killed.false in
    let legal : MayFollow j.format d J (Kill c.args.o c.args.cause.now) =
    kill_good j.format d J c.args.o c.args.cause.now alive (holds _ _ c.may_kill.ensures c.if-not-may_kill.false) in
    adds _ _ (Kill c.args.o c.args.cause.now) refl refl refl c.requires.kept c.requires.within legal
    c.in_ok-add.ensures.domain (c.in_ok-add.ensures.journal ∙ ap (λ e. J ++ e ∷ []) c.requires.is)
    (kill_added j.format d J j.tracks.items _ c.args.o c.args.cause.now c.requires.within c.requires.kept.tracked
    c.cut_in.ensures)

pub add-requires-clause-known : goal.add-requires-clause-known
add-requires-clause-known c = subst (NamesKnown c.args.self.now.books.domain) (sym c.requires.is) c.requires.within

pub add-requires-clause-once : goal.add-requires-clause-once
add-requires-clause-once c = subst (DiesOnce c.args.self.now.books.journal) (sym c.requires.is) (never_killed _ (sym c.is_killed.ensures ∙ c.if-is_killed.false))
