use Rattle.std.proofs.Common.{◌≡◌, ◌∙◌, ◌<◌, sym, subst, ℕ, List}
use Rattle.smi_run_runtime.specs.Sessions.{SessionBook}
use Rattle.smi_run_runtime.specs.Closing.{AreAllThere}
use Rattle.smi_run_runtime.proofs.runtime.Runtime.finish.Goals as goal

pub settle-requires-clause-all : goal.settle-requires-clause-all
settle-requires-clause-all g c = λ _ _. subst (λ (l : List SessionBook). AreAllThere c.self.inside.sessions l) c.deref.ensures.value (c.is_missing.ensures.all c.if-is_missing.false)

pub returns-in-Err-clause-memory : goal.returns-in-Err-clause-memory
returns-in-Err-clause-memory g c = λ _. subst (λ (n : ℕ). AreAllThere n c.args.closed.items) c.self.invariant.1 (subst (λ (l : List SessionBook). AreAllThere c.self.inside.sessions l) c.deref.ensures.value (c.is_missing.ensures.all c.if-is_missing.false))

pub returns-in-Ok-clause-all : goal.returns-in-Ok-clause-all
returns-in-Ok-clause-all g c = subst (λ (n : ℕ). AreAllThere n c.args.closed.items) c.self.invariant.1 (subst (λ (l : List SessionBook). AreAllThere c.self.inside.sessions l) c.deref.ensures.value (c.is_missing.ensures.all c.if-is_missing.false))

pub returns-in-Ok-clause-accepted : goal.returns-in-Ok-clause-accepted
returns-in-Ok-clause-accepted g c k o one lt is = c.settle.ensures.accepted k o one (subst (λ (n : ℕ). k < n) (sym c.self.invariant.1) lt) is
