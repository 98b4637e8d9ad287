use Rattle.std.proofs.Common.{flat_map, map}
use Rattle.std.specs.List.{list_any}
use Rattle.sml_tree.specs.Content.{state_content, class_content, file_content}
use Rattle.sml_check_faults.specs.Lookup.{actions_of}
use Rattle.sml_check_faults.specs.InBlocks.{is_faulty_action}
use Rattle.sml_check_faults.proofs.Rests.{Rest}
use Rattle.sml_check_faults.proofs.tables.Tables.has_faulty_state.Given as goal

abbrev pub invariant-loop-state : goal.invariant-loop-state
invariant-loop-state g l = Rest (λ ys. list_any (is_faulty_action (file_content l.self.file.now) (class_content l.class)) (flat_map actions_of (map state_content ys))) l.states l.state-index (list_any (is_faulty_action (file_content l.self.file.now) (class_content l.class)) (flat_map actions_of (map state_content l.states)))
