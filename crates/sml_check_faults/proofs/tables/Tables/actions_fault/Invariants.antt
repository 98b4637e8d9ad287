use Rattle.std.proofs.Common.{flat_map, map}
use Rattle.sml_tree.specs.Content.{action_content, class_content, file_content}
use Rattle.sml_check_faults.specs.Lookup as look
use Rattle.sml_check_faults.specs.Kinds as kinds
use Rattle.sml_check_faults.proofs.Rests.{Rest}
use Rattle.sml_check_faults.proofs.tables.Tables.actions_fault.Given as goal

abbrev pub invariant-loop-action : goal.invariant-loop-action
invariant-loop-action g l = Rest (λ ys. look.first_item (flat_map (kinds.action_faults l.kind (file_content l.self.file.now) (class_content l.class)) (map action_content ys))) l.actions l.action-index (let ys = l.actions in look.first_item (flat_map (kinds.action_faults l.kind (file_content l.self.file.now) (class_content l.class)) (map action_content ys)))
