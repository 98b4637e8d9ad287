use Rattle.std.proofs.Common.{◌++◌, length, map, refl}
use Rattle.sml_tree.specs.Content.{item_content}
use Rattle.sml_check_build.specs.Numbers.{class_list, classes_in}
use Rattle.sml_check_build.specs.Placed.{ItemPlaced}
use Rattle.sml_check_build.specs.Layout.{rows_from, blocks_from, class_laid, class_blocks, blocks_of_class}
use Rattle.sml_check_build.proofs.Elements.{all_mapped}
use Rattle.sml_check_build.proofs.Gathered.{moves_of, gathered_all}
use Rattle.sml_check_build.proofs.Layouts.{class_long, more_rows, more_blocks}
use Rattle.sml_check_build.proofs.classes.class_rows.Goals as goal

pub add_class-requires : goal.add_class-requires
add_class-requires g c = all_mapped (ItemPlaced c.args.names.now) item_content c.args.items.now c.loop-item.item-index c.item-item.result c.requires c.loop-item-test.true c.item-item.is

pub loop-item-preserved : goal.loop-item-preserved
loop-item-preserved g c =
    let n = c.args.names.now in
    let was = c.loop-item.blocks in
    let now = c.add_class.new.blocks in
    let made = c.loop-item.made.items in
    let next = c.add_class.new.made.items in
    let own = class_list (item_content c.item-item.result) in
    let grown = c.in_ok-add_class.ensures.blocks in
    record {
      rows = moves_of (λ ys. made ++ rows_from (class_laid n) blocks_of_class (length was) (classes_in (map item_content ys))) (λ ys. next ++ rows_from (class_laid n) blocks_of_class (length now) (classes_in (map item_content ys)))
          c.args.items.now c.args.items.now c.loop-item.item-index _ c.item-item.result c.loop-item.invariant.rows refl c.loop-item-test.true c.item-item.is
          (λ zs. more_rows (class_blocks n) blocks_of_class (class_long n) was now own (classes_in (map item_content zs)) grown (class_laid n) made next c.in_ok-add_class.ensures.is);
      blocks = moves_of (λ ys. was ++ blocks_from (class_blocks n) blocks_of_class (length was) (classes_in (map item_content ys))) (λ ys. now ++ blocks_from (class_blocks n) blocks_of_class (length now) (classes_in (map item_content ys)))
          c.args.items.now c.args.items.now c.loop-item.item-index _ c.item-item.result c.loop-item.invariant.blocks refl c.loop-item-test.true c.item-item.is
          (λ zs. more_blocks (class_blocks n) blocks_of_class (class_long n) was now own (classes_in (map item_content zs)) grown);
    }

pub returns-clause-is : goal.returns-clause-is
returns-clause-is g c =
    gathered_all (λ ys. rows_from (class_laid c.args.names.now) blocks_of_class (length c.loop-item.blocks) (classes_in (map item_content ys))) c.loop-item.made.items c.args.items.now c.loop-item.item-index _ c.loop-item.invariant.rows c.loop-item-test.false refl

pub returns-clause-blocks : goal.returns-clause-blocks
returns-clause-blocks g c =
    gathered_all (λ ys. blocks_from (class_blocks c.args.names.now) blocks_of_class (length c.loop-item.blocks) (classes_in (map item_content ys))) c.loop-item.blocks c.args.items.now c.loop-item.item-index _ c.loop-item.invariant.blocks c.loop-item-test.false refl
