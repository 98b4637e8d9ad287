-- A post may be shown exactly if it is the next that is wanted.
use Rattle.std.proofs.Common.{◌≡◌, ◌∙◌, List, Some, true, ap, length, subst, sym}
use Rattle.std.specs.Prelude.{slice_get}
use Rattle.std.proofs.lemmas.Bool.{true≢false}
use Rattle.smi_journal_entries.specs.Sets.{AreOf}
use Rattle.smi_journal_entries.specs.declared.entry.Verdict.{Verdict}
use Rattle.smi_meaning.specs.Items.{Post, Posted, item_of}
use Rattle.smi_audit_follower.specs.Followers.{IsUnder}
use Rattle.smi_audit_follower.specs.Following.{FollowerView, MayShow, MayTell, with_item}
use Rattle.smi_audit_follower.proofs.Posts.{post_may, post_not, post_opens, post_seen, post_waits}
use Rattle.smi_audit_follower.proofs.Sights.{are_of_view, tells_of}
use Rattle.smi_audit_follower.proofs.follower.Follower.post.Goals as goal

pub returns-then-not-is_wanted : goal.returns-then-not-is_wanted
returns-then-not-is_wanted c = λ m.
    let f = c.self.inside in
    let b = c.in-Some.sending in
    let sets = c.args.members.now in
    let x : Posted = record { post = record { target = c.args.target; action = c.args.action; args = c.args.args.now }; verdict = c.args.verdict } in
    let tells : MayTell f.format f.task.domain sets = tells_of f.format f.task f.begun sets (subst (λ (v : FollowerView). MayTell v.format v.domain sets) (sym c.self.view_is) c.requires.tells) in
    let under = subst (IsUnder f.task.domain sets f.task.pending f.begun) c.in-Some.is c.in_ok-sending.ensures in
    let waits = post_waits f.format f.task f.declared f.begun sets x b c.self.invariant c.pending-waits.ensures.names tells under (subst (λ (v : FollowerView). MayShow v (item_of sets x)) (sym c.self.view_is) m) in
    let told : c.is_wanted.result ≡ true =
    c.is_wanted.ensures.1
    (ap (λ (l : List Verdict). slice_get c.deref.result.now (length l)) c.deref-in-Some.ensures.value ∙ ap (λ (ps : List Post). slice_get ps (length b.verdicts.items)) c.deref.ensures.value ∙ waits) in
    absurd (true≢false (sym told ∙ c.if-not-is_wanted.true))

pub judged-requires-clause-opened : goal.judged-requires-clause-opened
judged-requires-clause-opened c =
    let f = c.self.inside in
    let b = c.in-Some.sending in
    let sets = c.args.members.now in
    let p : Post = record { target = c.args.target; action = c.args.action; args = c.args.args.now } in
    let tells : MayTell f.format f.task.domain sets = tells_of f.format f.task f.begun sets (subst (λ (v : FollowerView). MayTell v.format v.domain sets) (sym c.self.view_is) c.requires.tells) in
    let are : AreOf f.task.domain sets = are_of_view f.format f.task f.begun sets (subst (λ (v : FollowerView). AreOf v.domain sets) (sym c.self.view_is) c.requires.are) in
    let under = subst (IsUnder f.task.domain sets f.task.pending f.begun) c.in-Some.is c.in_ok-sending.ensures in
    let at : slice_get b.posts.items (length b.verdicts.items) ≡ Some p =
    ap (λ (ps : List Post). slice_get ps (length b.verdicts.items)) (sym c.deref.ensures.value) ∙ ap (λ (l : List Verdict). slice_get c.deref.result.now (length l)) (sym c.deref-in-Some.ensures.value)
    ∙ c.is_wanted.ensures.0 c.if-not-is_wanted.false in
    post_opens f.format f.task f.declared f.begun sets p b c.self.invariant tells are under at

pub returns-in_ok-next-in-Some : goal.returns-in_ok-next-in-Some
returns-in_ok-next-in-Some c =
    let f = c.self.inside in
    let b = c.in-Some.sending in
    let sets = c.args.members.now in
    let x : Posted = record { post = record { target = c.args.target; action = c.args.action; args = c.args.args.now }; verdict = c.args.verdict } in
    let tells : MayTell f.format f.task.domain sets = tells_of f.format f.task f.begun sets (subst (λ (v : FollowerView). MayTell v.format v.domain sets) (sym c.self.view_is) c.requires.tells) in
    let are : AreOf f.task.domain sets = are_of_view f.format f.task f.begun sets (subst (λ (v : FollowerView). AreOf v.domain sets) (sym c.self.view_is) c.requires.are) in
    let under = subst (IsUnder f.task.domain sets f.task.pending f.begun) c.in-Some.is c.in_ok-sending.ensures in
    let at : slice_get b.posts.items (length b.verdicts.items) ≡ Some x.post =
    ap (λ (ps : List Post). slice_get ps (length b.verdicts.items)) (sym c.deref.ensures.value) ∙ ap (λ (l : List Verdict). slice_get c.deref.result.now (length l)) (sym c.deref-in-Some.ensures.value)
    ∙ c.is_wanted.ensures.0 c.if-not-is_wanted.false in
    let opens = post_opens f.format f.task f.declared f.begun sets x.post b c.self.invariant tells are under at in (
      subst (λ (v : FollowerView). MayShow v (item_of sets x)) c.self.view_is (post_may f.format f.task f.begun sets x b c.self.invariant.told c.pending-waits.ensures.names under opens at),
      c.in_ok-next-in-Some.ensures ∙ post_seen f.format f.task f.begun sets x b under at ∙ ap (λ (v : FollowerView). with_item v (item_of sets x)) c.self.view_is,
    )

pub returns-in-None : goal.returns-in-None
returns-in-None c = λ m.
    let f = c.self.inside in
    let sets = c.args.members.now in
    let x : Posted = record { post = record { target = c.args.target; action = c.args.action; args = c.args.args.now }; verdict = c.args.verdict } in
    let tells : MayTell f.format f.task.domain sets = tells_of f.format f.task f.begun sets (subst (λ (v : FollowerView). MayTell v.format v.domain sets) (sym c.self.view_is) c.requires.tells) in
    let under = subst (IsUnder f.task.domain sets f.task.pending f.begun) c.in-None.is c.in_ok-sending.ensures in
    post_not f.format f.task f.declared f.begun sets x c.self.invariant c.pending-waits.ensures.names tells under (subst (λ (v : FollowerView). MayShow v (item_of sets x)) (sym c.self.view_is) m)
