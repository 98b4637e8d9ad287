use Rattle.sml_check_faults.proofs.heads.two_initial.Goals as goal

pub returns : goal.returns
returns g c = c.two_marked.ensures
