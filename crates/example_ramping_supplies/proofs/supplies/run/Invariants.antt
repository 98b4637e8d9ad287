use Rattle.example_ramping_supplies.proofs.supplies.run.Given as goal

abbrev pub ghosts-run_over : goal.ghosts-run_over
ghosts-run_over g a = record { names = a.boxes }
