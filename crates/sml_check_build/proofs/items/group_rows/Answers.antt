use Rattle.std.proofs.Common.{map, refl}
use Rattle.std.proofs.lemmas.List.{map-append}
use Rattle.sml_tree.specs.Content.{file_content, item_content}
use Rattle.sml_check_build.specs.Numbers.{group_list, groups_in}
use Rattle.sml_check_build.specs.Placed.{ItemPlaced}
use Rattle.sml_check_build.specs.Rows.{group_row}
use Rattle.sml_check_build.proofs.Elements.{all_mapped}
use Rattle.sml_check_build.proofs.Gathered.{gathered}
use Rattle.sml_check_build.proofs.items.group_rows.Goals as goal

pub add_group-requires-clause-item : goal.add_group-requires-clause-item
add_group-requires-clause-item g c = all_mapped (ItemPlaced c.args.names.now) item_content c.args.items.now
    c.loop-item.item-index c.item-item.result c.requires.items c.loop-item-test.true c.item-item.is

pub loop-item-preserved : goal.loop-item-preserved
loop-item-preserved g c =
    let row = group_row (file_content c.args.tables.now.file.now) c.args.names.now in
    let own = group_list (item_content c.item-item.result) in
    gathered (λ zs. map row (groups_in (map item_content zs))) (map row own) c.loop-item.made.items c.add_group.new.made.items c.args.items.now c.args.items.now c.loop-item.item-index _ c.item-item.result
    c.loop-item.invariant refl c.loop-item-test.true c.item-item.is (λ zs. map-append row own (groups_in (map item_content zs))) c.in_ok-add_group.ensures
