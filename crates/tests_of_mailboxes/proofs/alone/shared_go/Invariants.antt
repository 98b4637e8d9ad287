use Rattle.tests_of_mailboxes.proofs.alone.shared_go.Given as goal

abbrev pub ghosts-objects_go : goal.ghosts-objects_go
ghosts-objects_go g a = record { names = a.boxes }

abbrev pub ghosts-operators_go : goal.ghosts-operators_go
ghosts-operators_go g a = record { names = a.boxes }
