use Rattle.std.proofs.Common.{flat_map, map}
use Rattle.sml_tree.specs.Content.{file_content, item_content}
use Rattle.sml_check_faults.specs.Lookup as look
use Rattle.sml_check_faults.specs.Kinds as kinds
use Rattle.sml_check_faults.proofs.Rests.{Rest}
use Rattle.sml_check_faults.proofs.tables.Tables.items_fault.Given as goal

abbrev pub invariant-loop-item : goal.invariant-loop-item
invariant-loop-item g l = Rest (λ ys. look.first_item (flat_map (kinds.item_faults l.kind (file_content l.self.file.now)) (map item_content ys))) l.items l.item-index (let ys = l.items in look.first_item (flat_map (kinds.item_faults l.kind (file_content l.self.file.now)) (map item_content ys)))
