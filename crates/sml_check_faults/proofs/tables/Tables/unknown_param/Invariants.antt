use Rattle.std.proofs.Common.{flat_map, map}
use Rattle.sml_tree.specs.Content.{action_content, class_content, file_content, passed_content}
use Rattle.sml_check_faults.specs.Lookup as look
use Rattle.sml_check_faults.specs.Faults as faults
use Rattle.sml_check_faults.proofs.Rests.{Rest}
use Rattle.sml_check_faults.proofs.tables.Tables.unknown_param.Given as goal

abbrev pub invariant-loop-passed : goal.invariant-loop-passed
invariant-loop-passed g l = Rest (λ ys. look.first_item (flat_map (faults.unknown_passed (file_content l.self.file.now) l.called l.objects (class_content l.class) (action_content l.action)) (map passed_content ys))) l.args l.passed-index (let ys = l.args in look.first_item (flat_map (faults.unknown_passed (file_content l.self.file.now) l.called l.objects (class_content l.class) (action_content l.action)) (map passed_content ys)))
