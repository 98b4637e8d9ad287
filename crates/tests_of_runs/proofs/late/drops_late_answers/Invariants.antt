use Rattle.tests_of_runs.proofs.late.drops_late_answers.Given as goal

abbrev pub ghosts-drops_over : goal.ghosts-drops_over
ghosts-drops_over g a = record { names = a.boxes }
