use Rattle.std.proofs.Common.{◌∙◌, sym, ap, subst, map, take, [], ◌∷◌, ◌++◌, ◌+◌}
use Rattle.std.proofs.lemmas.List.{take_more, take_all, map-append}
use Rattle.std.specs.List.{AllZip}
use Rattle.indexmap.proofs.SetLemmas.{AllZip-push}
use Rattle.sml_tree.specs.Content.{item_content}
use Rattle.sml_check_faults.specs.Tables.{HasActionsOf}
use Rattle.sml_check_faults.proofs.ActionPlaces.{at_each}
use Rattle.sml_check_faults.proofs.actions.item_tables.Goals as goal

pub loop-item-preserved : goal.loop-item-preserved
loop-item-preserved g c =
    let items = c.args.items.now in
    let i = c.loop-item.item-index in
    let x = c.item-item.result in
    let front = map item_content (take i items) in
    let done = AllZip-push HasActionsOf front c.loop-item.tables.items (item_content x) c.in_ok-item_table.field-0 c.loop-item.invariant c.in_ok-item_table.ensures in
    let more = ap (map item_content) (take_more items i x c.loop-item-test.true ∙ ap (λ y. take i items ++ y ∷ []) (sym c.item-item.is)) ∙ map-append item_content (take i items) (x ∷ []) in
    subst (λ ys. AllZip HasActionsOf (map item_content (take (i + 1) items)) ys) (sym c.in_ok-push.ensures.items)
    (subst (λ xs. AllZip HasActionsOf xs (c.loop-item.tables.items ++ c.in_ok-item_table.field-0 ∷ [])) (sym more) done)

pub returns : goal.returns
returns g c = at_each (map item_content c.args.items.now) c.loop-item.tables.items (subst (λ xs. AllZip HasActionsOf (map item_content xs) c.loop-item.tables.items) (take_all c.loop-item.item-index c.args.items.now c.loop-item-test.false) c.loop-item.invariant)
