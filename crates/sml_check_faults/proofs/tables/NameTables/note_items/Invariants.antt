use Rattle.std.proofs.Common.{flat_map, map}
use Rattle.sml_tree.specs.Content.{item_content}
use Rattle.sml_check_faults.specs.Lookup.{item_sites}
use Rattle.sml_check_faults.proofs.Noted.{Notes}
use Rattle.sml_check_faults.proofs.tables.NameTables.note_items.Given as goal

abbrev pub invariant-loop-item : goal.invariant-loop-item
invariant-loop-item g l = Notes l.self.objects l.self.groups (λ zs. flat_map item_sites (map item_content zs))
    l.items l.item-index l.initial.may.items l.may.items
