use Rattle.tests_of_mailboxes.proofs.crowd.goes_once.Given as goal

abbrev pub ghosts-goes_round : goal.ghosts-goes_round
ghosts-goes_round g a = record { names = a.boxes }
