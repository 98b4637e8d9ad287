-- An entry that breaks no rule goes behind the others.
use Rattle.smi_audit.proofs.OneMore.{entered_legal, past_entered}
use Rattle.smi_audit.proofs.past.Past.enter.Goals as goal

pub invariant_of-result : goal.invariant_of-result
invariant_of-result c =
    entered_legal c.self.inside.judge c.take.new.self c.args.entry.now c.in-Ok.broken c.in-None.is c.self.invariant
    c.in-Ok.ensures

pub returns-in-None-clause-entered : goal.returns-in-None-clause-entered
returns-in-None-clause-entered c =
    past_entered c.args.self c.self.inside.judge c.take.new.self c.args.entry.now c.in-Ok.broken c.in-None.is
    c.self.view_is c.self.invariant c.in-Ok.ensures
