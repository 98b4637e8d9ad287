-- A change may be shown exactly if it waits.
use Rattle.std.proofs.Common.{◌≡◌, ◌∙◌, Some, true, ap, subst, sym}
use Rattle.std.proofs.lemmas.Bool.{true≢false}
use Rattle.smi_journal_entries.specs.Words.{Turned}
use Rattle.smi_interp.specs.declared.contact.Contact.TheVariants as named
use Rattle.smi_audit_follower.specs.Following.{FollowerView, MayShow, with_item}
use Rattle.smi_audit_follower.proofs.Ops.{change_may, change_seen, change_told, change_waits, change_wants}
use Rattle.smi_audit_follower.proofs.follower.Follower.changed.Goals as goal

pub returns-then-not-is_change : goal.returns-then-not-is_change
returns-then-not-is_change c = λ m.
    let f = c.self.inside in
    let waits = change_waits f.format f.task f.declared f.begun c.args.add c.args.member c.args.set c.self.invariant c.pending.ensures.names
    (subst (λ (v : FollowerView). MayShow v (Turned c.args.add c.args.member c.args.set)) (sym c.self.view_is) m) in
    let told : c.is_change.result ≡ true = c.is_change.ensures.1 (c.pending.ensures.is ∙ waits) in
    absurd (true≢false (sym told ∙ c.if-not-is_change.true))

pub changed-requires : goal.changed-requires
changed-requires c =
    change_wants c.self.inside.task c.args.add c.args.member c.args.set (sym c.pending.ensures.is ∙ c.is_change.ensures.0 c.if-not-is_change.false)

pub settled-requires-clause-told : goal.settled-requires-clause-told
settled-requires-clause-told c =
    let f = c.self.inside in
    change_told f.format f.task c.changed.new.self c.args.add c.args.member c.args.set c.self.invariant.told (sym c.pending.ensures.is ∙ c.is_change.ensures.0 c.if-not-is_change.false) c.changed.ensures

pub returns : goal.returns
returns c =
    let f = c.self.inside in
    let is : f.task.pending ≡ Some (named.Change c.args.add c.args.member c.args.set) = sym c.pending.ensures.is ∙ c.is_change.ensures.0 c.if-not-is_change.false in
    let item = Turned c.args.add c.args.member c.args.set in (
      subst (λ (v : FollowerView). MayShow v item) c.self.view_is (change_may f.format f.task f.declared f.begun c.args.add c.args.member c.args.set c.self.invariant c.pending.ensures.names is),
      c.in_ok-next.ensures ∙ change_seen f.format f.task c.changed.new.self f.declared f.begun c.args.add c.args.member c.args.set c.self.invariant is c.changed.ensures ∙ ap (λ (v : FollowerView). with_item v item) c.self.view_is,
    )
