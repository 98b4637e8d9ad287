use Rattle.std.proofs.Common.{◌∙◌, sym, ap, flat_map, map}
use Rattle.sml_tree.specs.Content.{file_content, item_content}
use Rattle.sml_check_faults.specs.Lookup.{first_item}
use Rattle.sml_check_faults.specs.Kinds.{item_faults}
use Rattle.sml_check_faults.proofs.FaultKinds.{single}
use Rattle.sml_check.proofs.faults.fault_of.Goals as goal

pub returns-in_default : goal.returns-in_default
returns-in_default g c = c.items_fault.ensures ∙ ap (λ ys. first_item (flat_map (item_faults c.args.kind (file_content c.args.tables.now.file.now)) (map item_content ys))) c.deref.ensures.value
    ∙ sym (ap first_item (single c.args.kind (file_content c.args.tables.now.file.now) c.in_default.not-Duplicate c.in_default.not-ParamsDiffer))
