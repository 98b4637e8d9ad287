use Rattle.tests_of_runs.proofs.openings.refuses.Given as goal

abbrev pub ghosts-is_refused : goal.ghosts-is_refused
ghosts-is_refused g a = record { names = a.boxes }
