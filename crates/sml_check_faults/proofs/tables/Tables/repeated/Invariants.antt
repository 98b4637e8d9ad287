use Rattle.std.proofs.Common.{map, []}
use Rattle.sml_tree.specs.Content.{item_content}
use Rattle.sml_check_faults.specs.Lookup as look
use Rattle.sml_check_faults.specs.Repeats as repeats
use Rattle.sml_check_faults.proofs.Rests.{Past}
use Rattle.sml_check_faults.proofs.tables.Tables.repeated.Given as goal

abbrev pub invariant-loop-i : goal.invariant-loop-i
invariant-loop-i g l = Past (λ bs ys. look.first_item (repeats.each_after repeats.repeated_item bs ys)) item_content l.self.file.now.items.items l.i (look.first_item (repeats.each_after repeats.repeated_item [] (map item_content l.self.file.now.items.items)))
