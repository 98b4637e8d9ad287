-- Each name stands for the mailboxes that were made for it.
use Rattle.tests_of_runs.proofs.two_names.finishes_two.Given as goal

abbrev pub ghosts-finishes_both-K-MailNames : goal.ghosts-finishes_both-K-MailNames
ghosts-finishes_both-K-MailNames g a = record { names = a.boxes }

abbrev pub ghosts-finishes_both-L-MailNames : goal.ghosts-finishes_both-L-MailNames
ghosts-finishes_both-L-MailNames g a = record { names = a.others }
