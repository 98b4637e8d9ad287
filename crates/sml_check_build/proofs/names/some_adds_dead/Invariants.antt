use Rattle.std.proofs.Common.{map}
use Rattle.std.specs.List.{list_any}
use Rattle.sml_tree.specs.Content.{item_content}
use Rattle.sml_check_faults.specs.Lookup as look
use Rattle.sml_check_build.specs.Numbers as numbers
use Rattle.sml_check_faults.proofs.Rests.{Rest}
use Rattle.sml_check_build.proofs.names.some_adds_dead.Given as goal

abbrev pub invariant-loop-item : goal.invariant-loop-item
invariant-loop-item g l = Rest (λ ys. list_any look.adds_dead (numbers.classes_in (map item_content ys))) l.items l.item-index (list_any look.adds_dead (numbers.classes_in (map item_content l.items)))
