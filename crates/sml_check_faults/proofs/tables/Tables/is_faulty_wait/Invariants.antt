use Rattle.std.proofs.Common.{[], map}
use Rattle.std.specs.List.{list_any}
use Rattle.sml_tree.specs.Content.{class_content, file_content, waited_content}
use Rattle.sml_check_faults.specs.Lookup.{objects_meant}
use Rattle.sml_check_faults.specs.InBlocks.{is_faulty_test}
use Rattle.sml_check_faults.proofs.Rests.{Rest}
use Rattle.sml_check_faults.proofs.tables.Tables.is_faulty_wait.Given as goal

abbrev pub invariant-loop-one : goal.invariant-loop-one
invariant-loop-one g l = Rest (λ ys. list_any (λ w. is_faulty_test (file_content l.self.file.now) (class_content l.class) w.all w.name [] (objects_meant (file_content l.self.file.now) w.all w.name)) (map waited_content ys)) l.waited l.one-index (list_any (λ w. is_faulty_test (file_content l.self.file.now) (class_content l.class) w.all w.name [] (objects_meant (file_content l.self.file.now) w.all w.name)) (map waited_content l.waited))
