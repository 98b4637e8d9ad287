use Rattle.std.proofs.Common.{map}
use Rattle.std.specs.Prelude.{find, option_map}
use Rattle.sml_tree.specs.Content.{state_content}
use Rattle.sml_check_faults.specs.Heads.{is_initial}
use Rattle.sml_check_build.specs.Numbers as numbers
use Rattle.sml_check_faults.proofs.Rests.{Rest}
use Rattle.sml_check_build.proofs.marks.marked_initial.Given as goal

abbrev pub invariant-loop-state : goal.invariant-loop-state
invariant-loop-state g l = Rest (λ ys. option_map numbers.state_name (find is_initial (map state_content ys))) l.states.items l.state-index (option_map numbers.state_name (find is_initial (map state_content l.states.items)))
