-- The world stays what it was, and each turn lets a task go.
use Rattle.smi_core.specs.Told.{HaveTheirs, BoardIsTold, Stays}
use Rattle.smi_core.proofs.Taking.{kept_count}
use Rattle.smi_core.proofs.machine.Machine.resume.Given as goal

abbrev pub invariant-loop-task : goal.invariant-loop-task
invariant-loop-task l = record {
  told : BoardIsTold l.self.board;
  have : HaveTheirs l.self.board l.self.tasks.items;
  stays : Stays l.initial.self.board l.initial.self.tasks.items l.self.board l.self.tasks.items;
}

abbrev pub decreases-loop-task : goal.decreases-loop-task
decreases-loop-task l = kept_count l.self.board.kept
