use Rattle.tests_of_runs.proofs.one_by_one.with_sessions.Given as goal

abbrev pub ghosts-with_runtime : goal.ghosts-with_runtime
ghosts-with_runtime g a = record { names = a.boxes }
