-- Whatever step it was.
use Rattle.std.proofs.Common.{subst}
use Rattle.smi_journal_entries.specs.declared.journal.Format.TheVariants.{Two}
use Rattle.smi_meaning.specs.Legal.{IsLegal}
use Rattle.smi_world.specs.World.{FrontOk}
use Rattle.smi_core.specs.Machines.{CoreView}
use Rattle.smi_core.proofs.Behind.{legal_behind}
use Rattle.smi_core.proofs.Opened.{fronts}
use Rattle.smi_core.proofs.stepper.Core.step.Goals as goal

pub returns-clause-fronts : goal.returns-clause-fronts
returns-clause-fronts c =
    subst (λ (v : CoreView). FrontOk v.world) c.self.view_is (fronts c.self.inside.machine.board c.self.inside.machine.tasks.items c.told.ensures)

pub returns-clause-each : goal.returns-clause-each
returns-clause-each c =
    legal_behind _ _ _ _ _ _ c.made-answer.ensures.step
    (subst (λ (v : CoreView). IsLegal Two v.setup.domain v.world.journal) c.self.view_is c.told.ensures.tied.legal)
