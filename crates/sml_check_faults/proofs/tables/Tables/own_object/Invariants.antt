use Rattle.std.proofs.Common.{flat_map}
use Rattle.sml_tree.specs.Content.{class_content, file_content}
use Rattle.sml_check_faults.specs.Lookup as look
use Rattle.sml_check_faults.specs.Faults as faults
use Rattle.sml_check_faults.proofs.Rests.{Rest}
use Rattle.sml_check_faults.proofs.tables.Tables.own_object.Given as goal

abbrev pub invariant-loop-object : goal.invariant-loop-object
invariant-loop-object g l = Rest (λ ys. look.first_item (flat_map (faults.own_object (file_content l.self.file.now) (class_content l.class)) ys)) l.objects l.object-index (let ys = l.objects in look.first_item (flat_map (faults.own_object (file_content l.self.file.now) (class_content l.class)) ys))
