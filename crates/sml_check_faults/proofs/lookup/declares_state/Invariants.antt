use Rattle.std.proofs.Common.{map}
use Rattle.std.specs.List.{list_any}
use Rattle.sml_tree.specs.Content.{state_content}
use Rattle.sml_check_faults.specs.Lookup as look
use Rattle.sml_check_faults.proofs.Rests.{Rest}
use Rattle.sml_check_faults.proofs.lookup.declares_state.Given as goal

abbrev pub invariant-loop-declared : goal.invariant-loop-declared
invariant-loop-declared g l = Rest (λ ys. list_any (look.is_state_named l.state) (map state_content ys)) l.states l.declared-index (let ys = l.states in list_any (look.is_state_named l.state) (map state_content ys))
