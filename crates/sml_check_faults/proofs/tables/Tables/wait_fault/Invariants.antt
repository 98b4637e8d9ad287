use Rattle.std.proofs.Common.{[], flat_map, map}
use Rattle.sml_tree.specs.Content.{class_content, file_content, waited_content}
use Rattle.sml_check_faults.specs.Lookup as look
use Rattle.sml_check_faults.specs.Kinds as kinds
use Rattle.sml_check_faults.proofs.Rests.{Rest}
use Rattle.sml_check_faults.proofs.tables.Tables.wait_fault.Given as goal

abbrev pub invariant-loop-one : goal.invariant-loop-one
invariant-loop-one g l = Rest (λ ys. look.first_item (flat_map (λ w. kinds.test_faults l.kind (file_content l.self.file.now) (class_content l.class) w.all w.name []) (map waited_content ys))) l.waited l.one-index (look.first_item (flat_map (λ w. kinds.test_faults l.kind (file_content l.self.file.now) (class_content l.class) w.all w.name []) (map waited_content l.waited)))
