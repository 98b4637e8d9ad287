-- An action ends where its end waits.
use Rattle.std.proofs.Common.{◌≡◌, ◌∙◌, Some, None, ap, subst, sym}
use Rattle.smi_interp.specs.Turn.{TurnView}
use Rattle.smi_audit_follower.specs.Following.{FollowerView, EndsIn}
use Rattle.smi_audit_follower.specs.Passing.{end_of}
use Rattle.smi_audit_follower.proofs.Ops.{end_not, end_so}
use Rattle.smi_audit_follower.proofs.follower.Follower.end.Goals as goal

pub returns-in-Some : goal.returns-in-Some
returns-in-Some c =
    let f = c.self.inside in
    let s = c.in-Some.state in
    let ends : end_of f.task.turn.state f.task.pending ≡ Some s =
    ap (λ (x : TurnView). end_of x.state f.task.pending) (sym c.turn.ensures.is) ∙ ap (end_of c.turn.result.now.state) (sym c.pending.ensures.is) ∙ sym c.end_state.ensures ∙ c.in-Some.is in
    subst (λ own. EndsIn c.args.self s own) (sym c.into_params.ensures.params)
    (subst (λ (v : FollowerView). EndsIn v s f.task.params) c.self.view_is (end_so f.format f.task f.declared f.begun s c.self.invariant c.pending.ensures.names ends))

pub returns : goal.returns
returns c = λ s h.
    let f = c.self.inside in
    let none : end_of f.task.turn.state f.task.pending ≡ None =
    ap (λ (x : TurnView). end_of x.state f.task.pending) (sym c.turn.ensures.is) ∙ ap (end_of c.turn.result.now.state) (sym c.pending.ensures.is) ∙ sym c.end_state.ensures ∙ c.in-None.is in
    end_not f.format f.task f.declared f.begun s h.0 c.self.invariant c.pending.ensures.names none (subst (λ (v : FollowerView). EndsIn v s h.0) (sym c.self.view_is) h.1)
