use Rattle.std.proofs.Common.{◌≡◌, map, take}
use Rattle.sml_tree.specs.Content.{item_content}
use Rattle.sml_check_faults.specs.Tables.{declared_members, names_in}
use Rattle.sml_check_faults.proofs.may.all_members.Given as goal

abbrev pub invariant-loop-item : goal.invariant-loop-item
invariant-loop-item g l = map names_in l.may.items
    ≡ map (λ x. declared_members (item_content x)) (take l.item-index l.items)
