use Rattle.tests_of_mailboxes.proofs.configured.two_mails_one_journal.Given as goal

abbrev pub ghosts-ruled_goes : goal.ghosts-ruled_goes
ghosts-ruled_goes g a = record { names = a.boxes }
