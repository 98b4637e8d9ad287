use Rattle.std.proofs.Common.{map, refl}
use Rattle.std.proofs.lemmas.List.{map-append}
use Rattle.sml_tree.specs.Content.{item_content}
use Rattle.sml_check_build.specs.Numbers.{object_list, objects_in}
use Rattle.sml_check_build.specs.Placed.{ItemPlaced}
use Rattle.sml_check_build.specs.Rows.{object_row}
use Rattle.sml_check_build.proofs.Elements.{all_mapped}
use Rattle.sml_check_build.proofs.Gathered.{gathered}
use Rattle.sml_check_build.proofs.items.object_rows.Goals as goal

pub add_object-requires : goal.add_object-requires
add_object-requires g c = all_mapped (ItemPlaced c.args.names.now) item_content c.args.items.now c.loop-item.item-index c.item-item.result c.requires c.loop-item-test.true c.item-item.is

pub loop-item-preserved : goal.loop-item-preserved
loop-item-preserved g c =
    let row = object_row c.args.names.now in
    let own = object_list (item_content c.item-item.result) in
    gathered (λ zs. map row (objects_in (map item_content zs))) (map row own) c.loop-item.made.items c.add_object.new.made.items c.args.items.now c.args.items.now c.loop-item.item-index _ c.item-item.result
    c.loop-item.invariant refl c.loop-item-test.true c.item-item.is (λ zs. map-append row own (objects_in (map item_content zs))) c.in_ok-add_object.ensures
