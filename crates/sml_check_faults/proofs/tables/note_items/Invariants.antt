use Rattle.std.proofs.Common.{map, take}
use Rattle.sml_tree.specs.Content.{item_content}
use Rattle.sml_check_faults.specs.Tables.{Places, is_named}
use Rattle.sml_check_faults.proofs.tables.note_items.Given as goal

abbrev pub invariant-loop-i : goal.invariant-loop-i
invariant-loop-i g l = Places (is_named l.kind) (map item_content (take l.i l.items)) l.table
