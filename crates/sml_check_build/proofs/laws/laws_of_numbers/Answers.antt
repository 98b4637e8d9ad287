use Rattle.sml_check_build.proofs.NumberLaws.{states_have_numbers, actions_have_numbers, numbers_are_one_to_one, added_dead_is_last}
use Rattle.sml_check_build.proofs.laws.laws_of_numbers.Goals as goal

pub returns-clause-states : goal.returns-clause-states
returns-clause-states c = states_have_numbers

pub returns-clause-actions : goal.returns-clause-actions
returns-clause-actions c = actions_have_numbers

pub returns-clause-apart : goal.returns-clause-apart
returns-clause-apart c = numbers_are_one_to_one

pub returns-clause-dead : goal.returns-clause-dead
returns-clause-dead c = added_dead_is_last
