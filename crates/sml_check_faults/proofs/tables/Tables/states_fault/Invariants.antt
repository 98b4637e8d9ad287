use Rattle.std.proofs.Common.{flat_map, map}
use Rattle.sml_tree.specs.Content.{class_content, file_content, state_content}
use Rattle.sml_check_faults.specs.Lookup as look
use Rattle.sml_check_faults.specs.Kinds as kinds
use Rattle.sml_check_faults.proofs.Rests.{Rest}
use Rattle.sml_check_faults.proofs.tables.Tables.states_fault.Given as goal

abbrev pub invariant-loop-state : goal.invariant-loop-state
invariant-loop-state g l = Rest (λ ys. look.first_item (flat_map (kinds.action_faults l.kind (file_content l.self.file.now) (class_content l.class)) (flat_map look.actions_of (map state_content ys)))) l.states l.state-index (let ys = l.states in look.first_item (flat_map (kinds.action_faults l.kind (file_content l.self.file.now) (class_content l.class)) (flat_map look.actions_of (map state_content ys))))
