-- Readings may be shown exactly if their objects wait to be read.
use Rattle.std.proofs.Common.{◌≡◌, ◌∙◌, true, ap, length, subst, sym}
use Rattle.std.specs.Prelude.{IsSomeAnd}
use Rattle.std.proofs.lemmas.Bool.{true≢false}
use Rattle.smi_journal_entries.specs.Sets.{AreOf}
use Rattle.smi_journal_entries.specs.Words.{Item, Saw}
use Rattle.smi_interp.specs.Task.{WantsStates, with_states}
use Rattle.smi_audit_follower.specs.Following.{FollowerView, MayShow, MayTell, with_item}
use Rattle.smi_audit_follower.proofs.Sights.{are_of_view, read_may, read_seen, read_told, read_waits, read_wants, tells_of}
use Rattle.smi_audit_follower.proofs.follower.Follower.seen.Goals as goal

pub returns-then-not-reads_those : goal.returns-then-not-reads_those
returns-then-not-reads_those c = λ m.
    let f = c.self.inside in
    let item : Item = Saw (record { sets = c.args.members.now; readings = c.args.readings.now }) in
    let tells : MayTell f.format f.task.domain c.args.members.now = tells_of f.format f.task f.begun c.args.members.now (subst (λ (v : FollowerView). MayTell v.format v.domain c.args.members.now) (sym c.self.view_is) c.requires.tells) in
    let waits = read_waits f.format f.task f.declared f.begun c.args.members.now c.args.readings.now c.self.invariant c.pending-waits.ensures.names tells
    (subst (λ (v : FollowerView). MayShow v item) (sym c.self.view_is) m) in
    let told : c.reads_those.result ≡ true = c.reads_those.ensures.1 (c.in_ok-objects.ensures ∙ waits) in
    absurd (true≢false (sym told ∙ c.if-not-reads_those.true))

pub objects_read-requires : goal.objects_read-requires
objects_read-requires c =
    let f = c.self.inside in
    are_of_view f.format f.task f.begun c.args.members.now (subst (λ (v : FollowerView). AreOf v.domain c.args.members.now) (sym c.self.view_is) c.requires.are)

pub tell-requires-clause-waits : goal.tell-requires-clause-waits
tell-requires-clause-waits c =
    let t = c.self.inside.task in
    let is = sym c.in_ok-objects.ensures ∙ c.reads_those.ensures.0 c.if-not-reads_those.false in
    let same = c.deref.ensures.value ∙ c.in_ok-states.ensures in
    subst (λ s. IsSomeAnd t.pending (WantsStates t.domain s (length c.deref.result.now))) (sym c.in_ok-by.ensures) (read_wants t c.args.members.now c.args.readings.now c.deref.result.now same is)

pub settled-requires-clause-told : goal.settled-requires-clause-told
settled-requires-clause-told c =
    let f = c.self.inside in
    let is = sym c.in_ok-objects.ensures ∙ c.reads_those.ensures.0 c.if-not-reads_those.false in
    let same = c.deref.ensures.value ∙ c.in_ok-states.ensures in
    let tells : MayTell f.format f.task.domain c.args.members.now = tells_of f.format f.task f.begun c.args.members.now (subst (λ (v : FollowerView). MayTell v.format v.domain c.args.members.now) (sym c.self.view_is) c.requires.tells) in
    read_told f.format f.task c.tell.new.self c.args.members.now c.args.readings.now c.deref.result.now c.self.invariant.told tells same is (c.tell.ensures ∙ ap (λ s. with_states f.task c.deref.result.now s) c.in_ok-by.ensures)

pub returns : goal.returns
returns c =
    let f = c.self.inside in
    let item : Item = Saw (record { sets = c.args.members.now; readings = c.args.readings.now }) in
    let is = sym c.in_ok-objects.ensures ∙ c.reads_those.ensures.0 c.if-not-reads_those.false in
    let same = c.deref.ensures.value ∙ c.in_ok-states.ensures in
    let tells : MayTell f.format f.task.domain c.args.members.now = tells_of f.format f.task f.begun c.args.members.now (subst (λ (v : FollowerView). MayTell v.format v.domain c.args.members.now) (sym c.self.view_is) c.requires.tells) in (
      subst (λ (v : FollowerView). MayShow v item) c.self.view_is (read_may f.format f.task f.declared f.begun c.args.members.now c.args.readings.now c.self.invariant c.pending-waits.ensures.names tells is),
      c.in_ok-next.ensures
          ∙ read_seen f.format f.task c.tell.new.self f.declared f.begun c.args.members.now c.args.readings.now c.deref.result.now c.self.invariant same is (c.tell.ensures ∙ ap (λ s. with_states f.task c.deref.result.now s) c.in_ok-by.ensures)
          ∙ ap (λ (v : FollowerView). with_item v item) c.self.view_is,
    )
