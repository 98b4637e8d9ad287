use Rattle.smi_mail.proofs.Moves.{takes_as}
use Rattle.smi_mail.proofs.Keeping.{end_popped}
use Rattle.smi_mail.proofs.ends.BoardEnd.take.Goals as goal

pub pop_as-requires-clause-rule : goal.pop_as-requires-clause-rule
pop_as-requires-clause-rule g c = takes_as _ _ _ c.self.invariant.ties.seen c.self.invariant.most c.self.invariant.none

pub invariant_of-self : goal.invariant_of-self
invariant_of-self g c = end_popped _ _ _ _ _ c.self.invariant c.pop_as.ensures.queue _ c.pop_as.result _ c.self.invariant.ties.seen c.pop_as.ensures.rule
