use Rattle.sml_check_faults.proofs.SameParams.{same_params_decides}
use Rattle.sml_check_faults.proofs.laws.comparison_of_params.Goals as goal

pub returns : goal.returns
returns c = same_params_decides
