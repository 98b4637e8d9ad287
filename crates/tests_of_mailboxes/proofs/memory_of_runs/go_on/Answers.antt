use Rattle.tests_of_mailboxes.proofs.memory_of_runs.go_on.Goals as goal

-- nothing was sent by ends that were just made
pub opens_at_last-requires-in-Ok-ruled-clause-unused : goal.opens_at_last-requires-in-Ok-ruled-clause-unused
opens_at_last-requires-in-Ok-ruled-clause-unused g c κs within k e at = (c.in-Ok-ruled.ensures.ends k e at).1
