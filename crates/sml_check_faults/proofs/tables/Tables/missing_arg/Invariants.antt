use Rattle.std.proofs.Common.{flat_map, map}
use Rattle.sml_tree.specs.Content.{file_content, passed_content}
use Rattle.sml_check_faults.specs.Lookup as look
use Rattle.sml_check_faults.specs.Faults as faults
use Rattle.sml_check_faults.proofs.Rests.{Rest}
use Rattle.sml_check_faults.proofs.tables.Tables.missing_arg.Given as goal

abbrev pub invariant-loop-object : goal.invariant-loop-object
invariant-loop-object g l = Rest (λ ys. look.first_item (flat_map (faults.missing_at (file_content l.self.file.now) l.called (map passed_content l.args)) ys)) l.objects l.object-index (let ys = l.objects in look.first_item (flat_map (faults.missing_at (file_content l.self.file.now) l.called (map passed_content l.args)) ys))
