use Rattle.std.proofs.Common.{flat_map}
use Rattle.sml_tree.specs.Content.{file_content}
use Rattle.sml_check_faults.specs.Lookup as look
use Rattle.sml_check_faults.specs.Kinds as kinds
use Rattle.sml_check_faults.proofs.Rests.{Rest}
use Rattle.sml_check.proofs.faults.kinds_fault.Given as goal

abbrev pub invariant-loop-kind : goal.invariant-loop-kind
invariant-loop-kind g l = Rest (λ ys. look.first_item (flat_map (kinds.with_kind (file_content l.tables.file.now)) ys)) l.kinds l.kind-index (let ys = l.kinds in look.first_item (flat_map (kinds.with_kind (file_content l.tables.file.now)) ys))
