-- That a set has no member is what the track shows, in the second format.
use Rattle.std.proofs.Common.{◌≡◌, ◌∙◌, true, false, refl, sym, ap, ◌++◌, ◌∷◌, [], subst}
use Rattle.smi_journal_entries.specs.declared.entry.Entry.TheVariants.{NoMember}
use Rattle.smi_journal_entries.specs.Sets.{Sets, sets_after}
use Rattle.smi_journal_entries.specs.Words.{Item, HadNone, is_open}
use Rattle.smi_meaning.specs.Legal.{MayFollow, ShowsNext}
use Rattle.smi_audit.specs.Splitting.{is_two}
use Rattle.smi_audit.specs.Tracks.{track_at}
use Rattle.smi_audit.proofs.Broken.{none_not_meant, in_two, not_in_two, not_two}
use Rattle.smi_audit.proofs.Followed.{may_be_told, not_shown_as, is_shown_as}
use Rattle.smi_audit.proofs.Adding.{adds, track_of, none_added}
use Rattle.smi_ledger.specs.Books.{NamesKnown, DiesOnce}
use Rattle.smi_audit.proofs.judge.Judge.no_member.Goals as goal

pub none_in-requires-clause-told : goal.none_in-requires-clause-told
none_in-requires-clause-told c =
    let j = c.args.self.now in
    may_be_told j.format j.books.domain j.books.journal c.args.o (track_at j.tracks.items c.args.o)
    c.sets-sets.result.now (track_of j c.args.o c.requires.within c.requires.kept) c.sets-sets.ensures.is
    c.sets-sets.ensures.are c.requires.kept.tells

pub returns-then-not-tells_of_sets : goal.returns-then-not-tells_of_sets
returns-then-not-tells_of_sets c =
    let j = c.args.self.now in
    let opened : is_open c.args.o j.books.journal ≡ true = sym c.is_open.ensures ∙ c.if-not-is_open.false in
    let one : is_two j.format ≡ false = sym c.tells_of_sets.ensures ∙ c.if-not-tells_of_sets.true in
    none_not_meant j.format j.books.domain j.books.journal c.args.o c.args.set opened (not_two j.format _ one)

pub returns-then-not-goes : goal.returns-then-not-goes
returns-then-not-goes c =
    let j = c.args.self.now in
    let d = j.books.domain in
    let J = j.books.journal in
    let item : Sets → Item = λ x. HadNone x c.args.set in
    let opened : is_open c.args.o J ≡ true = sym c.is_open.ensures ∙ c.if-not-is_open.false in
    none_not_meant j.format d J c.args.o c.args.set opened
    (not_in_two j.format (ShowsNext j.format d J c.args.o (item (sets_after d J)))
    (not_shown_as c.laws_of_following.ensures.shown j.format d J c.args.o (track_at j.tracks.items c.args.o) _
    (item (sets_after d J)) (item c.sets-sets.result.now) _ _
    (track_of j c.args.o c.requires.within c.requires.kept) (ap item c.sets-sets.ensures.is) c.if-not-goes.true
    c.in_ok-goes.ensures.shows))

pub returns : goal.returns
returns c =
    let j = c.args.self.now in
    let d = j.books.domain in
    let J = j.books.journal in
    let item : Sets → Item = λ x. HadNone x c.args.set in
    let two : is_two j.format ≡ true = sym c.tells_of_sets.ensures ∙ c.if-not-tells_of_sets.false in
    let shown : ShowsNext j.format d J c.args.o (item (sets_after d J)) =
    is_shown_as c.laws_of_following.ensures.shown j.format d J c.args.o (track_at j.tracks.items c.args.o) _
    (item (sets_after d J)) (item c.sets-sets.result.now) _ _
    (track_of j c.args.o c.requires.within c.requires.kept) (ap item c.sets-sets.ensures.is) c.if-not-goes.false
    c.in_ok-goes.ensures.shows in
    let legal : MayFollow j.format d J (NoMember c.args.o c.args.set) =
    in_two j.format (ShowsNext j.format d J c.args.o (item (sets_after d J))) two shown in
    adds _ _ (NoMember c.args.o c.args.set) refl refl refl c.requires.kept c.requires.within legal
    c.in_ok-add.ensures.domain (c.in_ok-add.ensures.journal ∙ ap (λ e. J ++ e ∷ []) c.requires.is)
    (none_added j.format d J j.tracks.items _ c.args.o c.args.set _ _ c.requires.within c.requires.kept.tracked
    c.in_ok-goes.ensures.written c.sets-sets.ensures.is c.if-not-goes.false c.in_ok-goes.ensures.shows)

pub add-requires-clause-known : goal.add-requires-clause-known
add-requires-clause-known c = subst (NamesKnown c.args.self.now.books.domain) (sym c.requires.is) c.requires.within

pub add-requires-clause-once : goal.add-requires-clause-once
add-requires-clause-once c = subst (DiesOnce c.args.self.now.books.journal) (sym c.requires.is) tt
