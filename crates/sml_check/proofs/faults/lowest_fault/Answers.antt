use Rattle.std.proofs.Common.{◌∙◌, sym, ap, map}
use Rattle.std.specs.List.{list_any}
use Rattle.sml_tree.specs.Content.{file_content, item_content}
use Rattle.sml_check_faults.specs.Lookup.{first_item}
use Rattle.sml_check_faults.specs.InBlocks.{is_faulty_item}
use Rattle.sml_check_faults.proofs.InBlocks.{others_suffice}
use Rattle.sml_check.proofs.faults.lowest_fault.Goals as goal

pub returns-else-has_faulty_item : goal.returns-else-has_faulty_item
returns-else-has_faulty_item g c =
    let file = file_content c.args.tables.now.file.now in
    c.kinds_fault-else-has_faulty_item.ensures
    ∙ ap first_item (others_suffice file (ap (λ items. list_any (is_faulty_item file) (map item_content items)) (sym c.deref.ensures.value) ∙ sym c.has_faulty_item.ensures ∙ c.if-has_faulty_item.false))
