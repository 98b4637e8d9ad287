use Rattle.sml_check_faults.proofs.Sound.{classes_have_states, one_is_initial, one_is_dead, associated_are_empty, tests_ask_others, params_of_both}
use Rattle.sml_check_faults.proofs.laws.sound_classes.Goals as goal

pub returns : goal.returns
returns c = record { states = classes_have_states; initial = one_is_initial; dead = one_is_dead; associated = associated_are_empty; tests = tests_ask_others; params = params_of_both }
