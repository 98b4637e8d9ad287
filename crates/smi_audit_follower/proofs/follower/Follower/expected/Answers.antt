-- The contact that waits is what may be shown, and within a send its next post.
use Rattle.std.proofs.Common.{◌≡◌, ◌∙◌, [], Some, ap, arith, get_or, length, refl, subst, sym}
use Rattle.std.specs.Prelude.{slice_get}
use Rattle.std.proofs.lemmas.Option.{slice_get_read}
use Rattle.smi_journal_entries.specs.Sets.{Sets}
use Rattle.smi_meaning.specs.Meaning.{state_left}
use Rattle.smi_meaning.specs.Shown.{ToChange}
use Rattle.smi_interp.specs.declared.contact.Contact.TheVariants as named
use Rattle.smi_interp.specs.Task.{outcome_of}
use Rattle.smi_interp.specs.Turn.{TurnView}
use Rattle.smi_audit_follower.specs.Expecting.{PostsNext, FollowerReadsNext, SendsNext}
use Rattle.smi_audit_follower.specs.Followers.{IsBegun, IsPosting, IsInStep, seen_by}
use Rattle.smi_audit_follower.specs.Following.{FollowerView, Asks, FollowerMayEnd}
use Rattle.smi_audit_follower.specs.Passing.{end_of}
use Rattle.smi_audit_follower.proofs.Ops.{end_so, stood_at}
use Rattle.smi_audit_follower.proofs.Posts.{posts_next, sends_next}
use Rattle.smi_audit_follower.proofs.Shows.{change_asks}
use Rattle.smi_audit_follower.proofs.Sights.{read_asked}
use Rattle.smi_audit_follower.proofs.follower.Follower.expected.Goals as goal

pub returns-in-Some : goal.returns-in-Some
returns-in-Some c =
    let f = c.self.inside in
    let b = c.in-Some.begun in
    let p = c.index.result.now in
    let k : IsPosting f.format f.task b = subst (IsBegun f.format f.task) c.in-Some.is c.self.invariant.sending in
    let count : c.len.result ≡ length b.verdicts.items = omega (arith, c.len.ensures, b.verdicts.ok.0) in
    let read : p ≡ get_or b.posts.items (length b.verdicts.items) p = c.index.ensures ∙ ap (λ i. get_or b.posts.items i p) count in
    let at : slice_get b.posts.items (length b.verdicts.items) ≡ Some p = slice_get_read b.posts.items (length b.posts.items) (length b.verdicts.items) p refl k.more read in
    subst (λ (v : FollowerView). PostsNext v p) (ap (seen_by f.format f.task) (sym c.in-Some.is) ∙ c.self.view_is) (posts_next f.format f.task b p c.self.invariant.told c.pending-waits.ensures.names k at)

pub returns-in-Some-Send : goal.returns-in-Some-Send
returns-in-Some-Send c =
    let f = c.self.inside in
    let w = c.in-Some-Send.wanted in
    let s = subst (IsInStep f.format f.task f.declared) c.in_default.is c.self.invariant in
    let is : f.task.pending ≡ Some (named.Send w) = sym c.in-Some-Send.ensures.is ∙ ap Some c.in-Some-Send.field-0-is in
    subst (λ (v : FollowerView). SendsNext v w) (ap (seen_by f.format f.task) (sym c.in_default.is) ∙ c.self.view_is) (sends_next f.format f.task f.declared w s c.pending-waits.ensures.names is)

pub returns-in-Some-Read : goal.returns-in-Some-Read
returns-in-Some-Read c =
    let f = c.self.inside in
    let names = c.in-Some-Read.names in
    let is : f.task.pending ≡ Some (named.Read names) = sym c.in-Some-Read.ensures.is ∙ ap Some c.in-Some-Read.field-0-is in
    subst (λ (v : FollowerView). FollowerReadsNext v names) c.self.view_is (read_asked f.format f.task f.declared f.begun names c.self.invariant c.pending-waits.ensures.names is)

pub returns-in-Some-Change : goal.returns-in-Some-Change
returns-in-Some-Change c =
    let f = c.self.inside in
    let k = c.in-Some-Change in
    let is : f.task.pending ≡ Some (named.Change k.add k.member k.set) = sym c.in-Some-Change.ensures.is ∙ ap Some c.in-Some-Change.field-0-is in
    subst (λ (v : FollowerView). (sets : Sets) → Asks v sets (ToChange k.add k.member k.set)) (ap (seen_by f.format f.task) (sym c.in_default.is) ∙ c.self.view_is)
    (λ sets. change_asks f.format f.task k.add k.member k.set sets [] (stood_at f.format f.task (named.Change k.add k.member k.set) c.self.invariant.told c.pending-waits.ensures.names is))

pub returns-in-Some-End : goal.returns-in-Some-End
returns-in-Some-End c =
    let f = c.self.inside in
    let t = f.task in
    let end = c.in-Some-End.end in
    let is : t.pending ≡ Some (named.End end) = sym c.in-Some-End.ensures.is ∙ ap Some c.in-Some-End.field-0-is in
    let state : c.state_after.result ≡ state_left t.turn.state (outcome_of end) = c.state_after.ensures ∙ ap (λ (x : TurnView). state_left x.state (outcome_of end)) c.turn.ensures.is in
    let ends : end_of t.turn.state t.pending ≡ Some c.state_after.result = ap (end_of t.turn.state) is ∙ ap (λ x. Some x) (sym state) in
    subst (λ (v : FollowerView). FollowerMayEnd v c.state_after.result) c.self.view_is (t.params, end_so f.format t f.declared f.begun c.state_after.result c.self.invariant c.pending-waits.ensures.names ends)
