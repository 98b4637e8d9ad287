use Rattle.sml_check_faults.proofs.heads.two_dead.Goals as goal

pub returns : goal.returns
returns g c = c.two_marked.ensures
