use Rattle.smi_mail.proofs.Moves.{begins, names_as}
use Rattle.smi_mail.proofs.ends.named_mailbox.Goals as goal

pub ruled-requires-clause-rule : goal.ruled-requires-clause-rule
ruled-requires-clause-rule g c = begins

pub another-spare-requires-clause-rule : goal.another-spare-requires-clause-rule
another-spare-requires-clause-rule g c = names_as _ _ _ _ c.in_ok-queue.ensures.3
