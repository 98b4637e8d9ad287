use Rattle.std.proofs.Common.{flat_map, map}
use Rattle.sml_tree.specs.Content.{item_content}
use Rattle.sml_check_faults.specs.Lookup as look
use Rattle.sml_check_faults.specs.Heads as heads
use Rattle.sml_check_faults.proofs.Rests.{Rest}
use Rattle.sml_check_faults.proofs.tables.Tables.differing.Given as goal

abbrev pub invariant-loop-i : goal.invariant-loop-i
invariant-loop-i g l = Rest (λ ys. look.first_item (flat_map heads.differing (map item_content ys))) l.self.file.now.items.items l.i (let ys = l.self.file.now.items.items in look.first_item (flat_map heads.differing (map item_content ys)))
