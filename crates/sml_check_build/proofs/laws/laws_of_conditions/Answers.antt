use Rattle.sml_check_build.proofs.Truths.{truth_is_kept, conditions_are_placed}
use Rattle.sml_check_build.proofs.laws.laws_of_conditions.Goals as goal

pub returns-clause-truth : goal.returns-clause-truth
returns-clause-truth c = truth_is_kept

pub returns-clause-placed : goal.returns-clause-placed
returns-clause-placed c = conditions_are_placed
