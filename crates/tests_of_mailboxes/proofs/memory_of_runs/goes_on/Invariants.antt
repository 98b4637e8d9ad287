use Rattle.tests_of_mailboxes.proofs.memory_of_runs.goes_on.Given as goal

abbrev pub ghosts-go_on : goal.ghosts-go_on
ghosts-go_on g a = record { names = a.boxes }
