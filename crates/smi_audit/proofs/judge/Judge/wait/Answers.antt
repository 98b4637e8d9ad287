-- An object waits for what it reads next, unless all of that is clear.
use Rattle.std.proofs.Common.{◌≡◌, ◌∙◌, List, true, false, refl, sym, ap, subst, ◌++◌, ◌∷◌, []}
use Rattle.sml_domain.specs.Domain.{Domain}
use Rattle.sml_domain.specs.Program.{Subject}
use Rattle.sml_domain.specs.Sound.{IsSound}
use Rattle.smi_journal_entries.specs.declared.entry.Entry.TheVariants.{Wait}
use Rattle.smi_journal_entries.specs.Sets.{Sets, AreOf, sets_after}
use Rattle.smi_journal_entries.specs.Words.{is_open}
use Rattle.smi_meaning.specs.EntryLaws.{are_clear}
use Rattle.smi_meaning.specs.Legal.{MayFollow}
use Rattle.smi_interp.specs.Expanded.{objects_by_names}
use Rattle.smi_audit.specs.Tracks.{track_at, TrackReadsNext, CannotRead}
use Rattle.smi_audit.proofs.Broken.{wait_not_meant, wait_clear, differ}
use Rattle.smi_audit.proofs.Followed.{not_read, is_read, waits_for, reads_there}
use Rattle.smi_audit.proofs.Tracked.{all_wait}
use Rattle.smi_audit.proofs.Adding.{adds, track_of}
use Rattle.smi_ledger.specs.Books.{NamesKnown, DiesOnce}
use Rattle.smi_audit.proofs.judge.Judge.wait.Goals as goal

-- the objects of names, of what is equal
named : (d d2 : Domain) (sets sets2 : Sets) (names : List Subject) (objects : List _) → d2 ≡ d → sets2 ≡ sets
    → objects ≡ objects_by_names d2 sets2 names → objects ≡ objects_by_names d sets names
named d d2 sets sets2 names objects domain same is =
    is ∙ ap (λ x. objects_by_names x sets2 names) domain ∙ ap (λ x. objects_by_names d x names) same

pub returns-in_default : goal.returns-in_default
returns-in_default c =
    let j = c.args.self.now in
    let opened : is_open c.args.o j.books.journal ≡ true = sym c.is_open.ensures ∙ c.if-not-is_open.false in
    let none : CannotRead (track_at j.tracks.items c.args.o).follower =
    subst (λ l. CannotRead (track_at l c.args.o).follower) c.deref.ensures.value c.in_default.ensures.none in
    wait_not_meant j.format j.books.domain j.books.journal c.args.o opened
    (not_read c.laws_of_following.ensures.shown j.format j.books.domain j.books.journal c.args.o
    (track_at j.tracks.items c.args.o) c.requires.kept.tells
    (track_of j c.args.o c.requires.within c.requires.kept) none)

pub objects_for-requires : goal.objects_for-requires
objects_for-requires c = subst (λ x. AreOf x c.sets-sets.result.now) (sym c.domain-2.ensures) c.sets-sets.ensures.are

pub all_clear-requires-clause-there : goal.all_clear-requires-clause-there
all_clear-requires-clause-there c =
    let j = c.args.self.now in
    let d = j.books.domain in
    let J = j.books.journal in
    let reads : TrackReadsNext (track_at j.tracks.items c.args.o).follower c.in-Some.names.now =
    subst (λ l. TrackReadsNext (track_at l c.args.o).follower c.in-Some.names.now) c.deref.ensures.value
    c.in-Some.ensures.some in
    let sound : IsSound d = subst IsSound c.domain.ensures c.objects-sound.ensures.sound in
    let are : AreOf d (sets_after d J) = subst (AreOf d) c.sets-sets.ensures.is c.sets-sets.ensures.are in
    let by : c.deref-2.result.now ≡ objects_by_names d (sets_after d J) c.in-Some.names.now =
    c.deref-2.ensures.value ∙ named d _ (sets_after d J) _ c.in-Some.names.now c.in_ok-objects.objects.items
    c.domain-2.ensures c.sets-sets.ensures.is c.in_ok-objects.ensures in
    reads_there c.laws_of_following.ensures.shown j.format d J c.args.o (track_at j.tracks.items c.args.o)
    c.in-Some.names.now c.deref-2.result.now sound are c.requires.kept.tells
    (track_of j c.args.o c.requires.within c.requires.kept) reads by

pub returns-then-all_clear : goal.returns-then-all_clear
returns-then-all_clear c =
    let j = c.args.self.now in
    let d = j.books.domain in
    let J = j.books.journal in
    let t = track_at j.tracks.items c.args.o in
    let own = track_of j c.args.o c.requires.within c.requires.kept in
    let opened : is_open c.args.o J ≡ true = sym c.is_open.ensures ∙ c.if-not-is_open.false in
    let reads : TrackReadsNext t.follower c.in-Some.names.now =
    subst (λ l. TrackReadsNext (track_at l c.args.o).follower c.in-Some.names.now) c.deref.ensures.value
    c.in-Some.ensures.some in
    let by : c.deref-2.result.now ≡ objects_by_names d (sets_after d J) c.in-Some.names.now =
    c.deref-2.ensures.value ∙ named d _ (sets_after d J) _ c.in-Some.names.now c.in_ok-objects.objects.items
    c.domain-2.ensures c.sets-sets.ensures.is c.in_ok-objects.ensures in
    let clear : are_clear J c.args.o c.deref-2.result.now ≡ true = sym c.all_clear.ensures ∙ c.if-all_clear.true in
    wait_clear j.format d J c.args.o opened (is_read c.laws_of_following.ensures.shown j.format d J c.args.o t
    c.in-Some.names.now c.deref-2.result.now c.requires.kept.tells own reads by)
    (λ w. differ (are_clear J c.args.o c.deref-2.result.now) clear
    ((waits_for c.laws_of_following.ensures.wait j.format d J c.args.o t c.in-Some.names.now
    c.deref-2.result.now c.requires.kept.tells own reads by).0 w))

pub returns : goal.returns
returns c =
    let j = c.args.self.now in
    let d = j.books.domain in
    let J = j.books.journal in
    let t = track_at j.tracks.items c.args.o in
    let reads : TrackReadsNext t.follower c.in-Some.names.now =
    subst (λ l. TrackReadsNext (track_at l c.args.o).follower c.in-Some.names.now) c.deref.ensures.value
    c.in-Some.ensures.some in
    let by : c.deref-2.result.now ≡ objects_by_names d (sets_after d J) c.in-Some.names.now =
    c.deref-2.ensures.value ∙ named d _ (sets_after d J) _ c.in-Some.names.now c.in_ok-objects.objects.items
    c.domain-2.ensures c.sets-sets.ensures.is c.in_ok-objects.ensures in
    let held : are_clear J c.args.o c.deref-2.result.now ≡ false = sym c.all_clear.ensures ∙ c.if-all_clear.false in
    let legal : MayFollow j.format d J (Wait c.args.o) =
    (waits_for c.laws_of_following.ensures.wait j.format d J c.args.o t c.in-Some.names.now c.deref-2.result.now
    c.requires.kept.tells (track_of j c.args.o c.requires.within c.requires.kept) reads by).1 held in
    adds _ _ (Wait c.args.o) refl refl refl c.requires.kept c.requires.within legal c.in_ok-add.ensures.domain
    (c.in_ok-add.ensures.journal ∙ ap (λ e. J ++ e ∷ []) c.requires.is) (all_wait j.format d J c.args.o j.tracks.items c.requires.kept.tracked)

pub add-requires-clause-known : goal.add-requires-clause-known
add-requires-clause-known c = subst (NamesKnown c.args.self.now.books.domain) (sym c.requires.is) c.requires.within

pub add-requires-clause-once : goal.add-requires-clause-once
add-requires-clause-once c = subst (DiesOnce c.args.self.now.books.journal) (sym c.requires.is) tt
