use Rattle.std.proofs.Common.{map, []}
use Rattle.sml_tree.specs.Content.{class_content, state_content}
use Rattle.sml_check_faults.specs.Lookup as look
use Rattle.sml_check_faults.specs.Repeats as repeats
use Rattle.sml_check_faults.proofs.Rests.{Past}
use Rattle.sml_check_faults.proofs.tables.Tables.repeated_state.Given as goal

abbrev pub invariant-loop-i : goal.invariant-loop-i
invariant-loop-i g l = Past (λ bs ys. look.first_item (repeats.each_after (repeats.repeated_state (class_content l.class)) bs ys)) state_content l.states l.i (look.first_item (repeats.each_after (repeats.repeated_state (class_content l.class)) [] (map state_content l.states)))
