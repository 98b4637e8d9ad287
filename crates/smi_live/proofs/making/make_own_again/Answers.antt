use Rattle.smi_live.proofs.Cases.{if_false}
use Rattle.smi_live.proofs.Resting.{idle_one}
use Rattle.smi_live.proofs.Stepped.{no_memory}
use Rattle.smi_live.proofs.making.make_own_again.Goals as goal

pub returns-clause-idle : goal.returns-clause-idle
returns-clause-idle g c =
    let r = c.step-answer.result in
    if_false c.tell_changed.result c.tell_changed.ensures.idle (λ p. idle_one c.args.keeper.now.core c.args.step.now r c.step-answer.new.self.core.world (no_memory r p.1) c.step-answer.ensures.steps p.0)
