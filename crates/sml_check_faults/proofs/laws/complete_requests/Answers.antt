use Rattle.sml_check_faults.proofs.Asked.{targets_have_actions, arguments_are_complete, arguments_are_params}
use Rattle.sml_check_faults.proofs.laws.complete_requests.Goals as goal

pub returns : goal.returns
returns c = record { actions = targets_have_actions; complete = arguments_are_complete; params = arguments_are_params }
