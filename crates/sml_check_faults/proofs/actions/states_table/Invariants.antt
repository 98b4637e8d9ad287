use Rattle.std.proofs.Common.{map, take}
use Rattle.sml_tree.specs.Content.{state_content}
use Rattle.sml_check_faults.specs.Tables.{HasActions}
use Rattle.sml_check_faults.proofs.actions.states_table.Given as goal

abbrev pub invariant-loop-i : goal.invariant-loop-i
invariant-loop-i g l = HasActions (map state_content (take l.i l.states)) l.table
