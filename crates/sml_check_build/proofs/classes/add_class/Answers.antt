use Rattle.std.proofs.Common.{◌∙◌, [], ◌∷◌, ◌++◌, length, ap, sym}
use Rattle.sml_tree.specs.Content.{class_content, item_content}
use Rattle.sml_check_build.specs.Numbers.{class_list}
use Rattle.sml_check_build.specs.Layout.{rows_from, blocks_from, class_laid, class_blocks, blocks_of_class}
use Rattle.sml_check_build.proofs.Layouts.{class_long, one_block}
use Rattle.sml_check_build.proofs.classes.add_class.Goals as goal

pub returns-in_ok-push-clause-is : goal.returns-in_ok-push-clause-is
returns-in_ok-push-clause-is g c =
    let made = c.args.made.now.items in
    let was = c.args.blocks.now in
    c.in_ok-push.ensures.items ∙ ap (λ r. made ++ r ∷ []) c.in_ok-class_row.ensures.is
    ∙ sym (ap (λ i. made ++ rows_from (class_laid c.args.names.now) blocks_of_class (length was) (class_list (item_content i))) c.in-Class.is)

pub returns-in_ok-push-clause-blocks : goal.returns-in_ok-push-clause-blocks
returns-in_ok-push-clause-blocks g c =
    let n = c.args.names.now in
    let was = c.args.blocks.now in
    one_block (class_blocks n) blocks_of_class (class_long n) was c.class_row.new.blocks (class_content c.in-Class.class) c.in_ok-class_row.ensures.blocks
    ∙ sym (ap (λ i. was ++ blocks_from (class_blocks n) blocks_of_class (length was) (class_list (item_content i))) c.in-Class.is)
