use Rattle.std.proofs.Common.{map}
use Rattle.std.specs.List.{list_any}
use Rattle.sml_tree.specs.Content.{item_content, file_content}
use Rattle.sml_check_faults.specs.InBlocks.{is_faulty_item}
use Rattle.sml_check_faults.proofs.Rests.{Rest}
use Rattle.sml_check_faults.proofs.tables.Tables.has_faulty_item.Given as goal

abbrev pub invariant-loop-item : goal.invariant-loop-item
invariant-loop-item g l = Rest (λ ys. list_any (is_faulty_item (file_content l.self.file.now)) (map item_content ys)) l.items l.item-index (list_any (is_faulty_item (file_content l.self.file.now)) (map item_content l.items))
