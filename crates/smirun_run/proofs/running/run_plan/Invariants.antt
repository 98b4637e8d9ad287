-- The mailboxes that were made are the ones that the name stands for.
use Rattle.smirun_run.proofs.running.run_plan.Given as goal

abbrev pub ghosts-run_over : goal.ghosts-run_over
ghosts-run_over g a = record { names = a.boxes }
