use Rattle.tests_of_mailboxes.proofs.killed_supply.goes_over.Goals as goal

-- nothing was sent by ends that were just made
pub open-requires-clause-unused : goal.open-requires-clause-unused
open-requires-clause-unused g c κs within k e at = (c.in-Ok.ensures.ends k e at).1
