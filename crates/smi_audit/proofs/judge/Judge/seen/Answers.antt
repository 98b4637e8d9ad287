-- What is seen is what the track shows.
use Rattle.std.proofs.Common.{◌≡◌, ◌∙◌, true, refl, sym, ap, subst, ◌++◌, ◌∷◌, []}
use Rattle.std.specs.List.{list_all}
use Rattle.smi_journal_entries.specs.declared.entry.Entry.TheVariants.{Seen}
use Rattle.smi_journal_entries.specs.Sets.{Sets, sets_after}
use Rattle.smi_journal_entries.specs.Words.{Item, Saw, is_open}
use Rattle.smi_meaning.specs.Legal.{MayFollow, ShowsNext, is_clear_for}
use Rattle.smi_audit_rules.specs.declared.rule.Rule.TheVariants as rule
use Rattle.smi_audit.specs.Judges.{BreaksOwn}
use Rattle.smi_audit.specs.Tracks.{track_at}
use Rattle.smi_audit.proofs.Broken.{seen_not_meant, seen_reading, seen_good, holds, fails}
use Rattle.smi_audit.proofs.Followed.{may_be_told, not_shown_as, is_shown_as}
use Rattle.smi_audit.proofs.Adding.{adds, track_of, seen_added}
use Rattle.smi_ledger.specs.Books.{NamesKnown, DiesOnce}
use Rattle.smi_audit.proofs.judge.Judge.seen.Goals as goal

pub see_in-requires-clause-told : goal.see_in-requires-clause-told
see_in-requires-clause-told c =
    let j = c.args.self.now in
    may_be_told j.format j.books.domain j.books.journal c.args.o (track_at j.tracks.items c.args.o)
    c.sets-sets.result.now (track_of j c.args.o c.requires.within c.requires.kept) c.sets-sets.ensures.is
    c.sets-sets.ensures.are c.requires.kept.tells

pub returns-then-not-goes : goal.returns-then-not-goes
returns-then-not-goes c =
    let j = c.args.self.now in
    let d = j.books.domain in
    let J = j.books.journal in
    let t = track_at j.tracks.items c.args.o in
    let item : Sets → Item = λ x. Saw (record { sets = x; readings = c.list-list.result.now }) in
    let opened : is_open c.args.o J ≡ true = sym c.is_open.ensures ∙ c.if-not-is_open.false in
    seen_not_meant j.format d J c.args.o c.args.readings.now opened
    (subst (λ l. ShowsNext j.format d J c.args.o (Saw (record { sets = sets_after d J; readings = l })) → ⊥)
    c.list-list.ensures
    (not_shown_as c.laws_of_following.ensures.shown j.format d J c.args.o t _ (item (sets_after d J))
    (item c.sets-sets.result.now) _ _ (track_of j c.args.o c.requires.within c.requires.kept)
    (ap item c.sets-sets.ensures.is) c.if-not-goes.true c.in_ok-goes.ensures.shows))

pub returns-then-not-are_states : goal.returns-then-not-are_states
returns-then-not-are_states c =
    let j = c.args.self.now in
    let d = j.books.domain in
    let J = j.books.journal in
    let t = track_at j.tracks.items c.args.o in
    let list = c.list-list.result.now in
    let item : Sets → Item = λ x. Saw (record { sets = x; readings = list }) in
    let opened : is_open c.args.o J ≡ true = sym c.is_open.ensures ∙ c.if-not-is_open.false in
    let shown : ShowsNext j.format d J c.args.o (item (sets_after d J)) =
    is_shown_as c.laws_of_following.ensures.shown j.format d J c.args.o t _ (item (sets_after d J))
    (item c.sets-sets.result.now) _ _ (track_of j c.args.o c.requires.within c.requires.kept)
    (ap item c.sets-sets.ensures.is) c.if-not-goes.false c.in_ok-goes.ensures.shows in
    let clear : list_all (is_clear_for J c.args.o) list ≡ true = sym c.read_clear.ensures ∙ c.if-not-read_clear.false in
    subst (λ l. BreaksOwn j.format d J (Seen c.args.o l) rule.Reading) c.list-list.ensures
    (seen_reading j.format d J c.args.o list opened shown clear
    (fails _ _ c.are_states.ensures c.if-not-are_states.true))

pub returns : goal.returns
returns c =
    let j = c.args.self.now in
    let d = j.books.domain in
    let J = j.books.journal in
    let t = track_at j.tracks.items c.args.o in
    let list = c.list-list.result.now in
    let item : Sets → Item = λ x. Saw (record { sets = x; readings = list }) in
    let opened : is_open c.args.o J ≡ true = sym c.is_open.ensures ∙ c.if-not-is_open.false in
    let shown : ShowsNext j.format d J c.args.o (item (sets_after d J)) =
    is_shown_as c.laws_of_following.ensures.shown j.format d J c.args.o t _ (item (sets_after d J))
    (item c.sets-sets.result.now) _ _ (track_of j c.args.o c.requires.within c.requires.kept)
    (ap item c.sets-sets.ensures.is) c.if-not-goes.false c.in_ok-goes.ensures.shows in
    let clear : list_all (is_clear_for J c.args.o) list ≡ true = sym c.read_clear.ensures ∙ c.if-not-read_clear.false in
    let legal : MayFollow j.format d J (Seen c.args.o c.args.readings.now) =
    subst (λ l. MayFollow j.format d J (Seen c.args.o l)) c.list-list.ensures
    (seen_good j.format d J c.args.o list opened shown clear
    (holds _ _ c.are_states.ensures c.if-not-are_states.false)) in
    adds _ _ (Seen c.args.o c.args.readings.now) refl refl refl c.requires.kept c.requires.within legal
    c.in_ok-add.ensures.domain (c.in_ok-add.ensures.journal ∙ ap (λ e. J ++ e ∷ []) c.requires.is)
    (seen_added j.format d J j.tracks.items _ c.args.o list c.args.readings.now _ _ c.list-list.ensures
    c.requires.within c.requires.kept.tracked c.in_ok-goes.ensures.written c.sets-sets.ensures.is
    c.if-not-goes.false c.in_ok-goes.ensures.shows)

pub add-requires-clause-known : goal.add-requires-clause-known
add-requires-clause-known c = subst (NamesKnown c.args.self.now.books.domain) (sym c.requires.is) c.requires.within

pub add-requires-clause-once : goal.add-requires-clause-once
add-requires-clause-once c = subst (DiesOnce c.args.self.now.books.journal) (sym c.requires.is) tt
