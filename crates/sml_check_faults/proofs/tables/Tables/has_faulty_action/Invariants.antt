use Rattle.std.proofs.Common.{map}
use Rattle.std.specs.List.{list_any}
use Rattle.sml_tree.specs.Content.{action_content, class_content, file_content}
use Rattle.sml_check_faults.specs.InBlocks.{is_faulty_action}
use Rattle.sml_check_faults.proofs.Rests.{Rest}
use Rattle.sml_check_faults.proofs.tables.Tables.has_faulty_action.Given as goal

abbrev pub invariant-loop-action : goal.invariant-loop-action
invariant-loop-action g l = Rest (λ ys. list_any (is_faulty_action (file_content l.self.file.now) (class_content l.class)) (map action_content ys)) l.actions l.action-index (list_any (is_faulty_action (file_content l.self.file.now) (class_content l.class)) (map action_content l.actions))
