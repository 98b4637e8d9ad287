use Rattle.std.proofs.Common.{flat_map, map}
use Rattle.sml_tree.specs.Content.{state_content, file_content}
use Rattle.sml_check_faults.specs.Lookup as look
use Rattle.sml_check_faults.specs.Heads as heads
use Rattle.sml_check_faults.specs.Tables.{file_class_at}
use Rattle.sml_check_faults.proofs.Rests.{Rest}
use Rattle.sml_check_faults.proofs.tables.Tables.other_in_states.Given as goal

abbrev pub invariant-loop-state : goal.invariant-loop-state
invariant-loop-state g l = Rest (λ ys. look.first_item (flat_map (heads.other_params (file_class_at (file_content l.self.file.now) l.class)) (flat_map look.actions_of (map state_content ys)))) l.states l.state-index (let ys = l.states in look.first_item (flat_map (heads.other_params (file_class_at (file_content l.self.file.now) l.class)) (flat_map look.actions_of (map state_content ys))))
