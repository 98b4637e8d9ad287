use Rattle.std.proofs.Common.{map, []}
use Rattle.sml_tree.specs.Content.{action_content, class_content}
use Rattle.sml_check_faults.specs.Lookup as look
use Rattle.sml_check_faults.specs.Repeats as repeats
use Rattle.sml_check_faults.proofs.Rests.{Past}
use Rattle.sml_check_faults.proofs.tables.Tables.repeated_action.Given as goal

abbrev pub invariant-loop-i : goal.invariant-loop-i
invariant-loop-i g l = Past (λ bs ys. look.first_item (repeats.each_after (repeats.repeated_action (class_content l.class)) bs ys)) action_content l.actions l.i (look.first_item (repeats.each_after (repeats.repeated_action (class_content l.class)) [] (map action_content l.actions)))
