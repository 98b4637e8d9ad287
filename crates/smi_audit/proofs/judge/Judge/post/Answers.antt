-- A post is one that the track shows.
use Rattle.std.proofs.Common.{◌≡◌, ◌∙◌, true, refl, sym, ap, ◌++◌, ◌∷◌, [], subst}
use Rattle.smi_journal_entries.specs.declared.entry.Entry.TheVariants.{Post}
use Rattle.smi_journal_entries.specs.Sets.{Sets, sets_after}
use Rattle.smi_journal_entries.specs.Words.{Item, Sent, is_open}
use Rattle.smi_meaning.specs.Legal.{MayFollow, ShowsNext}
use Rattle.smi_audit.specs.Tracks.{track_at}
use Rattle.smi_audit.proofs.Broken.{post_not_meant, post_good, holds}
use Rattle.smi_audit.proofs.Followed.{may_be_told, not_shown_as, is_shown_as}
use Rattle.smi_audit.proofs.Adding.{adds, track_of, post_added}
use Rattle.smi_ledger.specs.Books.{NamesKnown, DiesOnce}
use Rattle.smi_audit.proofs.judge.Judge.post.Goals as goal

pub post_in-requires-clause-told : goal.post_in-requires-clause-told
post_in-requires-clause-told c =
    let j = c.args.self.now in
    may_be_told j.format j.books.domain j.books.journal c.args.o (track_at j.tracks.items c.args.o)
    c.sets-sets.result.now (track_of j c.args.o c.requires.within c.requires.kept) c.sets-sets.ensures.is
    c.sets-sets.ensures.are c.requires.kept.tells

pub returns-then-not-goes : goal.returns-then-not-goes
returns-then-not-goes c =
    let j = c.args.self.now in
    let d = j.books.domain in
    let J = j.books.journal in
    let item : Sets → Item = λ x. Sent x c.args.target c.args.verdict.now c.args.action c.args.args.now in
    let opened : is_open c.args.o J ≡ true = sym c.is_open.ensures ∙ c.if-not-is_open.false in
    post_not_meant j.format d J c.args.o c.args.target c.args.action c.args.verdict.now c.args.args.now opened
    (not_shown_as c.laws_of_following.ensures.shown j.format d J c.args.o (track_at j.tracks.items c.args.o) _
    (item (sets_after d J)) (item c.sets-sets.result.now) _ _
    (track_of j c.args.o c.requires.within c.requires.kept) (ap item c.sets-sets.ensures.is) c.if-not-goes.true
    c.in_ok-goes.ensures.shows)

pub returns : goal.returns
returns c =
    let j = c.args.self.now in
    let d = j.books.domain in
    let J = j.books.journal in
    let item : Sets → Item = λ x. Sent x c.args.target c.args.verdict.now c.args.action c.args.args.now in
    let opened : is_open c.args.o J ≡ true = sym c.is_open.ensures ∙ c.if-not-is_open.false in
    let shown : ShowsNext j.format d J c.args.o (item (sets_after d J)) =
    is_shown_as c.laws_of_following.ensures.shown j.format d J c.args.o (track_at j.tracks.items c.args.o) _
    (item (sets_after d J)) (item c.sets-sets.result.now) _ _
    (track_of j c.args.o c.requires.within c.requires.kept) (ap item c.sets-sets.ensures.is) c.if-not-goes.false
    c.in_ok-goes.ensures.shows in
    let legal : MayFollow j.format d J (Post c.args.o c.args.target c.args.verdict.now c.args.action c.args.args.now) =
    post_good j.format d J c.args.o c.args.target c.args.action c.args.verdict.now c.args.args.now opened shown
    (holds _ _ c.tells_the_dead.ensures c.if-not-tells_the_dead.false)
    (holds _ _ c.has_number.ensures c.if-not-has_number.false) in
    adds _ _ (Post c.args.o c.args.target c.args.verdict.now c.args.action c.args.args.now) refl refl refl
    c.requires.kept c.requires.within legal c.in_ok-add.ensures.domain (c.in_ok-add.ensures.journal ∙ ap (λ e. J ++ e ∷ []) c.requires.is)
    (post_added j.format d J j.tracks.items _ c.args.o c.args.target c.args.action c.args.verdict.now
    c.args.args.now _ _ c.requires.within c.requires.target c.requires.kept.tracked
    c.in_ok-goes.ensures.written c.sets-sets.ensures.is c.if-not-goes.false
    c.in_ok-goes.ensures.shows)

pub add-requires-clause-known : goal.add-requires-clause-known
add-requires-clause-known c = subst (NamesKnown c.args.self.now.books.domain) (sym c.requires.is) (c.requires.within, c.requires.target)

pub add-requires-clause-once : goal.add-requires-clause-once
add-requires-clause-once c = subst (DiesOnce c.args.self.now.books.journal) (sym c.requires.is) tt
