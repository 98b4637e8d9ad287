use Rattle.std.proofs.Common.{◌∙◌, sym, map, refl}
use Rattle.std.specs.List.{list_any}
use Rattle.sml_tree.specs.Content.{file_content, item_content}
use Rattle.sml_check_faults.specs.InBlocks.{is_faulty_item}
use Rattle.sml_check_faults.proofs.InBlocks.{any_here, any_next}
use Rattle.sml_check_faults.proofs.Rests.{rest_end}
use Rattle.sml_check_faults.proofs.tables.Tables.has_faulty_item.Goals as goal

pub returns-then-is_faulty_item : goal.returns-then-is_faulty_item
returns-then-is_faulty_item g c =
    let p = is_faulty_item (file_content c.args.self.now.file.now) in
    any_here (λ ys. list_any p (map item_content ys)) c.args.items.now c.args.items.now c.loop-item.item-index _ c.item-item.result (p (item_content c.item-item.result))
    c.loop-item.invariant refl c.loop-item-test.true c.item-item.is (λ zs. refl) (sym c.is_faulty_item.ensures ∙ c.if-is_faulty_item.true)

pub loop-item-preserved : goal.loop-item-preserved
loop-item-preserved g c =
    let p = is_faulty_item (file_content c.args.self.now.file.now) in
    any_next (λ ys. list_any p (map item_content ys)) c.args.items.now c.args.items.now c.loop-item.item-index _ c.item-item.result (p (item_content c.item-item.result))
    c.loop-item.invariant refl c.loop-item-test.true c.item-item.is (λ zs. refl) (sym c.is_faulty_item.ensures ∙ c.if-is_faulty_item.false)

pub returns : goal.returns
returns g c = rest_end c.loop-item.invariant c.loop-item-test.false
