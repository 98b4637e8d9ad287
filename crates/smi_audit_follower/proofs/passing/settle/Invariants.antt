use Rattle.std.proofs.Common.{◌≡◌, ◌-◌, None, length}
use Rattle.smi_interp.specs.Task.{body}
use Rattle.smi_audit_follower.specs.Following.{AreTellable}
use Rattle.smi_audit_follower.specs.Passing.{fresh_of, size}
use Rattle.smi_audit_follower.proofs.passing.settle.Given as goal

-- each move that shows nothing is one of the few
abbrev pub decreases-loop : goal.decreases-loop
decreases-loop l = size (body l.task) - length l.task.turn.moves

abbrev pub invariant-loop : goal.invariant-loop
invariant-loop l = record {
  idle : l.task.pending ≡ None;
  domain : l.task.domain ≡ l.fn.task.domain;
  same : fresh_of l.format l.task ≡ fresh_of l.format l.fn.task;
  told : AreTellable l.format l.task.domain l.task.turn.moves;
}
