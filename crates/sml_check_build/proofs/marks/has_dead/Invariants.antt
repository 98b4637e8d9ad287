use Rattle.std.proofs.Common.{map}
use Rattle.std.specs.List.{list_any}
use Rattle.sml_tree.specs.Content.{state_content}
use Rattle.sml_check_faults.specs.Lookup as look
use Rattle.sml_check_faults.proofs.Rests.{Rest}
use Rattle.sml_check_build.proofs.marks.has_dead.Given as goal

abbrev pub invariant-loop-state : goal.invariant-loop-state
invariant-loop-state g l = Rest (λ ys. list_any look.is_dead (map state_content ys)) l.states.items l.state-index (list_any look.is_dead (map state_content l.states.items))
