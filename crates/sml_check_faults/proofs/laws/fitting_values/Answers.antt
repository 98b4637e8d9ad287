use Rattle.sml_check_faults.proofs.Fitting.{ends_are_states, tests_name_states, arguments_have_kinds, arguments_fit, sets_fit, class_defaults_fit, action_defaults_fit}
use Rattle.sml_check_faults.proofs.laws.fitting_values.Goals as goal

pub returns : goal.returns
returns c =
    record {
      ends = ends_are_states;
      tests = tests_name_states;
      kinds = arguments_have_kinds;
      arguments = arguments_fit;
      sets = sets_fit;
      class_defaults = class_defaults_fit;
      action_defaults = action_defaults_fit;
    }
