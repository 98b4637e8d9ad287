use Rattle.std.specs.List.{list_any}
use Rattle.sml_tree.specs.Content.{file_content}
use Rattle.sml_check_faults.specs.Faults as faults
use Rattle.sml_check_faults.proofs.Rests.{Rest}
use Rattle.sml_check_faults.proofs.tables.Tables.some_has_state.Given as goal

abbrev pub invariant-loop-object : goal.invariant-loop-object
invariant-loop-object g l = Rest (λ ys. list_any (faults.object_has_state (file_content l.self.file.now) l.state) ys) l.objects l.object-index (let ys = l.objects in list_any (faults.object_has_state (file_content l.self.file.now) l.state) ys)
