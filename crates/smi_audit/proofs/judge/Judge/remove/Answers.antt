-- A change of a set is one that the track shows, in the second format.
use Rattle.std.proofs.Common.{◌≡◌, ◌∙◌, true, false, refl, sym, ◌++◌, ◌∷◌, [], ap, subst}
use Rattle.smi_journal_entries.specs.declared.entry.Entry.TheVariants.{Remove}
use Rattle.smi_journal_entries.specs.Words.{Item, Turned, is_open}
use Rattle.smi_meaning.specs.Legal.{MayFollow, ShowsNext}
use Rattle.smi_audit.specs.Splitting.{is_two}
use Rattle.smi_audit.specs.Tracks.{track_at}
use Rattle.smi_audit.proofs.Broken.{remove_not_meant, in_two, not_in_two, not_two}
use Rattle.smi_audit.proofs.Followed.{not_shown, is_shown}
use Rattle.smi_audit.proofs.Adding.{adds, track_of, remove_added}
use Rattle.smi_ledger.specs.Books.{NamesKnown, DiesOnce}
use Rattle.smi_audit.proofs.judge.Judge.remove.Goals as goal

pub returns-then-not-tells_of_sets : goal.returns-then-not-tells_of_sets
returns-then-not-tells_of_sets c =
    let j = c.args.self.now in
    let opened : is_open c.args.o j.books.journal ≡ true = sym c.is_open.ensures ∙ c.if-not-is_open.false in
    let one : is_two j.format ≡ false = sym c.tells_of_sets.ensures ∙ c.if-not-tells_of_sets.true in
    remove_not_meant j.format j.books.domain j.books.journal c.args.o c.args.member c.args.set opened
    (not_two j.format _ one)

pub returns-then-not-goes : goal.returns-then-not-goes
returns-then-not-goes c =
    let j = c.args.self.now in
    let d = j.books.domain in
    let J = j.books.journal in
    let opened : is_open c.args.o J ≡ true = sym c.is_open.ensures ∙ c.if-not-is_open.false in
    remove_not_meant j.format d J c.args.o c.args.member c.args.set opened
    (not_in_two j.format (ShowsNext j.format d J c.args.o (Turned false c.args.member c.args.set))
    (not_shown c.laws_of_following.ensures.shown j.format d J c.args.o (track_at j.tracks.items c.args.o) _
    (Turned false c.args.member c.args.set) _ _ (track_of j c.args.o c.requires.within c.requires.kept)
    c.if-not-goes.true c.in_ok-goes.ensures.shows))

pub returns : goal.returns
returns c =
    let j = c.args.self.now in
    let d = j.books.domain in
    let J = j.books.journal in
    let item : Item = Turned false c.args.member c.args.set in
    let two : is_two j.format ≡ true = sym c.tells_of_sets.ensures ∙ c.if-not-tells_of_sets.false in
    let shown : ShowsNext j.format d J c.args.o item =
    is_shown c.laws_of_following.ensures.shown j.format d J c.args.o (track_at j.tracks.items c.args.o) _ item _ _
    (track_of j c.args.o c.requires.within c.requires.kept) c.if-not-goes.false c.in_ok-goes.ensures.shows in
    let legal : MayFollow j.format d J (Remove c.args.o c.args.member c.args.set) =
    in_two j.format (ShowsNext j.format d J c.args.o item) two shown in
    adds _ _ (Remove c.args.o c.args.member c.args.set) refl refl refl c.requires.kept c.requires.within legal
    c.in_ok-add.ensures.domain (c.in_ok-add.ensures.journal ∙ ap (λ e. J ++ e ∷ []) c.requires.is)
    (remove_added j.format d J j.tracks.items _ c.args.o c.args.member c.args.set _ c.requires.within
    c.requires.kept.tracked c.in_ok-goes.ensures.written c.if-not-goes.false c.in_ok-goes.ensures.shows)

pub add-requires-clause-known : goal.add-requires-clause-known
add-requires-clause-known c = subst (NamesKnown c.args.self.now.books.domain) (sym c.requires.is) (c.requires.within, c.requires.member)

pub add-requires-clause-once : goal.add-requires-clause-once
add-requires-clause-once c = subst (DiesOnce c.args.self.now.books.journal) (sym c.requires.is) tt
