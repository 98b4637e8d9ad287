use Rattle.std.proofs.Common.{flat_map, map, refl}
use Rattle.sml_tree.specs.Content.{item_content}
use Rattle.sml_check_faults.specs.Lookup.{item_sites}
use Rattle.sml_check_faults.proofs.Noted.{notes_more, notes_end}
use Rattle.sml_check_faults.proofs.tables.NameTables.note_items.Goals as goal

pub loop-item-preserved : goal.loop-item-preserved
loop-item-preserved g c =
    notes_more c.args.self.now.objects c.args.self.now.groups (λ zs. flat_map item_sites (map item_content zs))
    (λ x. item_sites (item_content x)) (λ x zs. refl) c.args.items.now c.args.items.now c.loop-item.item-index
    c.args.may.now.items c.loop-item.may.items c.loop-item.invariant refl c.note_item.new.may.items
    c.item-item.result c.loop-item-test.true c.item-item.is c.in_ok-note_item.ensures

pub returns : goal.returns
returns g c =
    notes_end c.args.self.now.objects c.args.self.now.groups (λ zs. flat_map item_sites (map item_content zs))
    (λ x. item_sites (item_content x)) (λ x zs. refl) c.args.items.now c.args.items.now c.loop-item.item-index
    c.args.may.now.items c.loop-item.may.items c.loop-item.invariant refl refl c.loop-item-test.false
