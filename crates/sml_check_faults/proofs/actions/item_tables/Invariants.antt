use Rattle.std.proofs.Common.{map, take}
use Rattle.std.specs.List.{AllZip}
use Rattle.sml_tree.specs.Content.{item_content}
use Rattle.sml_check_faults.specs.Tables.{HasActionsOf}
use Rattle.sml_check_faults.proofs.actions.item_tables.Given as goal

abbrev pub invariant-loop-item : goal.invariant-loop-item
invariant-loop-item g l = AllZip HasActionsOf (map item_content (take l.item-index l.items)) l.tables.items
