use Rattle.std.proofs.Common.{◌≡◌, ◌∙◌, refl, ap, map, flat_map}
use Rattle.sml_tree.specs.Syntax.{ItemData, class, object, group}
use Rattle.sml_tree.specs.Content.{item_content}
use Rattle.sml_check_faults.specs.Lookup.{first_item}
use Rattle.sml_check_faults.specs.Heads as heads
use Rattle.sml_check_faults.specs.Tables.{class_item, differing_at}
use Rattle.sml_check_faults.proofs.Rests.{first_here, first_next, first-append, rest_end_lent}
use Rattle.sml_check_faults.proofs.Places.{item_there}
use Rattle.sml_check_faults.proofs.tables.Tables.differing.Goals as goal

as_there : (x : ItemData) → differing_at (class_item x) x ≡ heads.differing x
as_there (class c) = refl
as_there (object o) = refl
as_there (group g) = refl

pub returns-in-Some : goal.returns-in-Some
returns-in-Some g c =
    let items = c.args.self.now.file.now.items.items in
    let x = item_content c.item-item.result in
    let at = item_there item_content class_item items c.deref-item-items.result.now c.loop-i.i c.item-item.result c.deref-item-items.ensures.value c.loop-i-test.true c.item-item.is in
    first_here (λ ys. first_item (flat_map heads.differing (map item_content ys))) items c.deref-item-items.result.now c.loop-i.i _ c.item-item.result (first_item (heads.differing x))
    c.loop-i.invariant c.deref-item-items.ensures.value c.loop-i-test.true c.item-item.is (λ zs. first-append (heads.differing x) (flat_map heads.differing (map item_content zs))) c.in-Some.name
    (c.in-Some.ensures ∙ ap (λ k. first_item (differing_at k x)) at ∙ ap first_item (as_there x))

pub loop-i-preserved : goal.loop-i-preserved
loop-i-preserved g c =
    let items = c.args.self.now.file.now.items.items in
    let x = item_content c.item-item.result in
    let at = item_there item_content class_item items c.deref-item-items.result.now c.loop-i.i c.item-item.result c.deref-item-items.ensures.value c.loop-i-test.true c.item-item.is in
    first_next (λ ys. first_item (flat_map heads.differing (map item_content ys))) items c.deref-item-items.result.now c.loop-i.i _ c.item-item.result (first_item (heads.differing x))
    c.loop-i.invariant c.deref-item-items.ensures.value c.loop-i-test.true c.item-item.is (λ zs. first-append (heads.differing x) (flat_map heads.differing (map item_content zs)))
    (c.in_default.ensures ∙ ap (λ k. first_item (differing_at k x)) at ∙ ap first_item (as_there x))

pub returns : goal.returns
returns g c = rest_end_lent c.deref-item-items.result.now c.deref-item-items.ensures.value c.loop-i.invariant c.loop-i-test.false
