use Rattle.std.proofs.Common.{◌∙◌, ◌++◌, ap, sym, refl, map, fold}
use Rattle.sml_tree.specs.Content.{item_content}
use Rattle.sml_domain.specs.Names.{distinct_more}
use Rattle.sml_check_build.specs.Numbers.{class_list, classes_in}
use Rattle.sml_check_build.proofs.Gathered.{moves_of}
use Rattle.sml_check_build.proofs.names.class_names.Goals as goal
use Rattle.sml_check_build.proofs.names.class_names.Goals.{in-Class+in_ok-add-in-Class, in-Object, in-Group}
use Rattle.sml_check_faults.specs.Tables.{class_name}

pub loop-item-preserved : goal.loop-item-preserved
loop-item-preserved g c =
    let xs = c.args.items.now in
    let x = c.item-item.result in
    let i = c.loop-item.item-index in
    let was = c.loop-item.names in
    let now = c.match-item.names in
    let left = c.loop-item.invariant in
    elim c.match-item.branch [
      | in-Class+in_ok-add-in-Class w ↦ moves_of (λ ys. fold distinct_more was (map class_name (classes_in (map item_content ys)))) (λ ys. fold distinct_more now (map class_name (classes_in (map item_content ys)))) xs xs i _ x left refl c.loop-item-test.true c.item-item.is
          (λ zs. ap (λ y. fold distinct_more was (map class_name (class_list (item_content y) ++ classes_in (map item_content zs)))) w.in-Class.is
          ∙ ap (λ n. fold distinct_more n (map class_name (classes_in (map item_content zs)))) (sym (w.names-is ∙ w.in_ok-add-in-Class.ensures.added)))
      | in-Object w ↦ moves_of (λ ys. fold distinct_more was (map class_name (classes_in (map item_content ys)))) (λ ys. fold distinct_more now (map class_name (classes_in (map item_content ys)))) xs xs i _ x left refl c.loop-item-test.true c.item-item.is
          (λ zs. ap (λ y. fold distinct_more was (map class_name (class_list (item_content y) ++ classes_in (map item_content zs)))) w.in-Object.is ∙ ap (λ n. fold distinct_more n (map class_name (classes_in (map item_content zs)))) (sym w.names-is))
      | in-Group w ↦ moves_of (λ ys. fold distinct_more was (map class_name (classes_in (map item_content ys)))) (λ ys. fold distinct_more now (map class_name (classes_in (map item_content ys)))) xs xs i _ x left refl c.loop-item-test.true c.item-item.is
          (λ zs. ap (λ y. fold distinct_more was (map class_name (class_list (item_content y) ++ classes_in (map item_content zs)))) w.in-Group.is ∙ ap (λ n. fold distinct_more n (map class_name (classes_in (map item_content zs)))) (sym w.names-is))
    ]
