use Rattle.tests_of_mailboxes.proofs.killed_supply.goes_once.Given as goal

abbrev pub ghosts-goes_over : goal.ghosts-goes_over
ghosts-goes_over g a = record { names = a.boxes }
