-- Only the object of the last entry can be within a send.
use Rattle.std.proofs.Common.{◌∙◌, ◌<◌, length, Some, None, sym, subst}
use Rattle.smi_ledger.specs.Books.{IsLast}
use Rattle.smi_audit.specs.Splitting.{IsNextPost}
use Rattle.smi_audit.specs.Tracks.{track_at}
use Rattle.smi_audit.proofs.Unsplit.{followed_in_two, last_out, last_there, none_within}
use Rattle.smi_audit.proofs.judge.Judge.begun.Goals as goal

pub next_post_in-requires : goal.next_post_in-requires
next_post_in-requires c =
    let j = c.args.self.now in
    let last : IsLast j.books.journal (Some c.in-Some.object) =
    c.in-Some.ensures in
    let lt : c.in-Some.object < length j.books.domain.objects =
    last_there (length j.books.domain.objects) j.books.journal c.in-Some.object c.requires.kept.there last in
    subst (λ l. c.in-Some.object < length l) (sym c.deref.ensures.value)
    (subst (λ n. c.in-Some.object < n) (sym c.requires.kept.tracked.count) lt)

pub returns-in_default-clause-none : goal.returns-in_default-clause-none
returns-in_default-clause-none c x p w =
    none_within c.args.self.now.books.domain c.args.self.now.books.journal x p
    c.in_default.ensures w

pub returns-in-None-clause-none : goal.returns-in-None-clause-none
returns-in-None-clause-none c =
    let j = c.args.self.now in
    let o = c.in-Some.object in
    let last : IsLast j.books.journal (Some o) = c.in-Some.ensures in
    let lt : o < length j.books.domain.objects =
    last_there (length j.books.domain.objects) j.books.journal o c.requires.kept.there last in
    let next : IsNextPost (track_at j.tracks.items o).follower None =
    subst (λ l. IsNextPost (track_at l o).follower None) c.deref.ensures.value c.in-None.ensures in
    last_out j.books.domain j.books.journal o (track_at j.tracks.items o).follower c.requires.legal last
    (followed_in_two j o c.requires.two lt c.requires.kept) next

pub returns-in-Some-next_post_in-clause-some : goal.returns-in-Some-next_post_in-clause-some
returns-in-Some-next_post_in-clause-some c =
    let j = c.args.self.now in
    let o = c.in-Some.object in
    let last : IsLast j.books.journal (Some o) = c.in-Some.ensures in
    let lt : o < length j.books.domain.objects =
    last_there (length j.books.domain.objects) j.books.journal o c.requires.kept.there last in
    let next : IsNextPost (track_at j.tracks.items o).follower (Some c.in-Some-next_post_in.post.now) =
    subst (λ l. IsNextPost (track_at l o).follower (Some c.in-Some-next_post_in.post.now)) c.deref.ensures.value
    c.in-Some-next_post_in.ensures in
    next j.books.domain j.books.journal o (followed_in_two j o c.requires.two lt c.requires.kept)
