use Rattle.std.proofs.Common.{◌∙◌, ap}
use Rattle.sml_tree.specs.Content.{item_content}
use Rattle.sml_check_faults.specs.Repeats.{is_class_named}
use Rattle.sml_check_faults.specs.Tables.{is_before}
use Rattle.sml_check_faults.proofs.Places.{before_any}
use Rattle.sml_check_faults.proofs.tables.Tables.names_class.Goals as goal

pub returns : goal.returns
returns g c =
    let q = c.args.name.now in
    c.stands_before.ensures ∙ ap (is_before c.args.end) (c.args.self.now.places.class_places q) ∙ before_any item_content (is_class_named q) c.args.self.now.file.now.items.items c.args.end
