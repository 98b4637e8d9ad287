use Rattle.std.proofs.Common.{flat_map, map}
use Rattle.sml_tree.specs.Content.{action_content, file_content}
use Rattle.sml_check_faults.specs.Lookup as look
use Rattle.sml_check_faults.specs.Heads as heads
use Rattle.sml_check_faults.specs.Tables.{file_class_at}
use Rattle.sml_check_faults.proofs.Rests.{Rest}
use Rattle.sml_check_faults.proofs.tables.Tables.other_action.Given as goal

abbrev pub invariant-loop-action : goal.invariant-loop-action
invariant-loop-action g l = Rest (λ ys. look.first_item (flat_map (heads.other_params (file_class_at (file_content l.self.file.now) l.class)) (map action_content ys))) l.actions l.action-index (let ys = l.actions in look.first_item (flat_map (heads.other_params (file_class_at (file_content l.self.file.now) l.class)) (map action_content ys)))
