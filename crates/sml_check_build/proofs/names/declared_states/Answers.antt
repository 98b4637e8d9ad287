use Rattle.std.proofs.Common.{◌∙◌, ap, sym, refl, map, flat_map, fold}
use Rattle.sml_tree.specs.Content.{item_content}
use Rattle.sml_domain.specs.Names.{distinct_more}
use Rattle.sml_check_build.specs.Numbers.{class_list, classes_in, names_of_states}
use Rattle.sml_check_build.proofs.Gathered.{moves_of}
use Rattle.sml_check_build.proofs.Foldings.{names_item}
use Rattle.sml_check_build.proofs.names.declared_states.Goals as goal

pub loop-item-preserved : goal.loop-item-preserved
loop-item-preserved g c =
    let was = c.loop-item.names in
    let now = c.add_item_states.new.names in
    moves_of (λ ys. fold distinct_more was (flat_map names_of_states (classes_in (map item_content ys)))) (λ ys. fold distinct_more now (flat_map names_of_states (classes_in (map item_content ys))))
    c.args.items.now c.args.items.now c.loop-item.item-index _ c.item-item.result c.loop-item.invariant refl c.loop-item-test.true c.item-item.is
    (λ zs. names_item names_of_states class_list was (item_content c.item-item.result) (map item_content zs)
    ∙ ap (λ n. fold distinct_more n (flat_map names_of_states (classes_in (map item_content zs)))) (sym c.in_ok-add_item_states.ensures))
