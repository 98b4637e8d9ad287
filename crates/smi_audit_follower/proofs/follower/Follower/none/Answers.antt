-- A set without members may be shown exactly if the send that waits goes to it.
use Rattle.std.proofs.Common.{◌≡◌, ◌∙◌, Some, None, [], true, ap, subst, sym}
use Rattle.std.specs.Prelude.{is_some}
use Rattle.std.proofs.lemmas.Bool.{true≢false}
use Rattle.smi_journal_entries.specs.Words.{HadNone, Item}
use Rattle.smi_interp.specs.Task.{with_verdicts}
use Rattle.smi_audit_follower.specs.Followers.{IsInStep, seen_by, set_asked}
use Rattle.smi_audit_follower.specs.Following.{FollowerView, MayShow, MayTell, with_item}
use Rattle.smi_audit_follower.proofs.Posts.{none_begun, none_may, none_seen, none_told, none_waits, some_begun}
use Rattle.smi_audit_follower.proofs.Sights.{tells_of}
use Rattle.smi_audit_follower.proofs.follower.Follower.none.Goals as goal

pub returns-then-is_some : goal.returns-then-is_some
returns-then-is_some c = λ m.
    let f = c.self.inside in
    let sets = c.args.members.now in
    let item : Item = HadNone sets c.args.set in
    let tells : MayTell f.format f.task.domain sets = tells_of f.format f.task f.begun sets (subst (λ (v : FollowerView). MayTell v.format v.domain sets) (sym c.self.view_is) c.requires.tells) in
    let w = none_waits f.format f.task f.declared f.begun sets c.args.set c.self.invariant c.pending-waits.ensures.names tells (subst (λ (v : FollowerView). MayShow v item) (sym c.self.view_is) m) in
    let some : is_some f.begun ≡ true = sym c.is_some.ensures ∙ c.if-is_some.true in
    some_begun f.begun some w.0

pub returns-then-not-is_without : goal.returns-then-not-is_without
returns-then-not-is_without c = λ m.
    let f = c.self.inside in
    let sets = c.args.members.now in
    let item : Item = HadNone sets c.args.set in
    let tells : MayTell f.format f.task.domain sets = tells_of f.format f.task f.begun sets (subst (λ (v : FollowerView). MayTell v.format v.domain sets) (sym c.self.view_is) c.requires.tells) in
    let w = none_waits f.format f.task f.declared f.begun sets c.args.set c.self.invariant c.pending-waits.ensures.names tells (subst (λ (v : FollowerView). MayShow v item) (sym c.self.view_is) m) in
    let told : c.is_without.result ≡ true = c.is_without.ensures.1 (c.in_ok-set_wanted.ensures ∙ w.1) in
    absurd (true≢false (sym told ∙ c.if-not-is_without.true))

pub settled-requires-clause-told : goal.settled-requires-clause-told
settled-requires-clause-told c =
    let f = c.self.inside in
    let sets = c.args.members.now in
    let tells : MayTell f.format f.task.domain sets = tells_of f.format f.task f.begun sets (subst (λ (v : FollowerView). MayTell v.format v.domain sets) (sym c.self.view_is) c.requires.tells) in
    let asked : set_asked f.task.domain sets f.task.pending ≡ Some c.args.set = sym c.in_ok-set_wanted.ensures ∙ c.is_without.ensures.0 c.if-not-is_without.false in
    none_told f.format f.task c.sent.new.self sets c.args.set c.self.invariant.told tells asked (c.sent.ensures ∙ ap (with_verdicts f.task []) c.in_ok-by.ensures)

pub returns : goal.returns
returns c =
    let f = c.self.inside in
    let sets = c.args.members.now in
    let item : Item = HadNone sets c.args.set in
    let tells : MayTell f.format f.task.domain sets = tells_of f.format f.task f.begun sets (subst (λ (v : FollowerView). MayTell v.format v.domain sets) (sym c.self.view_is) c.requires.tells) in
    let asked : set_asked f.task.domain sets f.task.pending ≡ Some c.args.set = sym c.in_ok-set_wanted.ensures ∙ c.is_without.ensures.0 c.if-not-is_without.false in
    let no : f.begun ≡ None = none_begun f.begun (sym c.is_some.ensures ∙ c.if-is_some.false) in
    let s = subst (IsInStep f.format f.task f.declared) no c.self.invariant in
    let view : seen_by f.format f.task None ≡ c.args.self = ap (seen_by f.format f.task) (sym no) ∙ c.self.view_is in (
      subst (λ (v : FollowerView). MayShow v item) view (none_may f.format f.task f.declared sets c.args.set s c.pending-waits.ensures.names tells asked),
      c.in_ok-next.ensures ∙ none_seen f.format f.task c.sent.new.self f.declared sets c.args.set s tells asked (c.sent.ensures ∙ ap (with_verdicts f.task []) c.in_ok-by.ensures)
          ∙ ap (λ (v : FollowerView). with_item v item) view,
    )
