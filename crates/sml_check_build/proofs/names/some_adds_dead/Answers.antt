use Rattle.std.proofs.Common.{◌∙◌, ◌||◌, true, ap, sym, map}
use Rattle.std.specs.List.{list_any}
use Rattle.sml_tree.specs.Content.{item_content}
use Rattle.sml_check_faults.specs.Lookup.{adds_dead}
use Rattle.sml_check_faults.proofs.Rests.{more_of, here_of, rest_none}
use Rattle.sml_check_build.specs.Numbers.{class_list, classes_in}
use Rattle.sml_check_build.proofs.Numbered.{any_append}
use Rattle.sml_check_build.proofs.names.some_adds_dead.Goals as goal
use Rattle.std.proofs.Common.{refl}

pub loop-item-preserved : goal.loop-item-preserved
loop-item-preserved g c =
    more_of (λ ys. list_any adds_dead (classes_in (map item_content ys))) c.args.items.now c.args.items.now c.loop-item.item-index _ c.item-item.result c.loop-item.invariant refl c.loop-item-test.true c.item-item.is
    (λ zs. any_append adds_dead (class_list (item_content c.item-item.result)) (classes_in (map item_content zs))
    ∙ ap (λ b. b || list_any adds_dead (classes_in (map item_content zs))) (sym c.item_adds_dead-adds.ensures ∙ c.if-adds.false))

pub returns-then-adds : goal.returns-then-adds
returns-then-adds g c =
    here_of (λ ys. list_any adds_dead (classes_in (map item_content ys))) c.args.items.now c.args.items.now c.loop-item.item-index _ c.item-item.result c.loop-item.invariant refl c.loop-item-test.true c.item-item.is true
    (λ zs. any_append adds_dead (class_list (item_content c.item-item.result)) (classes_in (map item_content zs))
    ∙ ap (λ b. b || list_any adds_dead (classes_in (map item_content zs))) (sym c.item_adds_dead-adds.ensures ∙ c.if-adds.true))

pub returns : goal.returns
returns g c = rest_none (λ ys. list_any adds_dead (classes_in (map item_content ys))) c.args.items.now c.loop-item.item-index _ c.loop-item.invariant c.loop-item-test.false
