use Rattle.std.proofs.Common.{refl, ◌∙◌}
use Rattle.sml_tree.specs.Content.{file_content}
use Rattle.sml_check_faults.specs.Lookup.{file_class_named}
use Rattle.sml_check_faults.specs.Repeats.{is_class_named}
use Rattle.sml_check_faults.specs.Tables.{class_item}
use Rattle.sml_check_faults.proofs.Places.{placed, absent, class_more}
use Rattle.sml_check_faults.proofs.tables.Tables.class.Goals as goal

pub returns-in-Some : goal.returns-in-Some
returns-in-Some g c =
    let q = c.args.name.now in
    c.class_at.ensures
    ∙ placed (is_class_named q) class_item (λ items. file_class_named items q) refl (class_more q) (file_content c.args.self.now.file.now) _ c.in-Some.place.now
    (c.args.self.now.places.class_places q) c.in-Some.ensures.value

pub returns-in-None : goal.returns-in-None
returns-in-None g c =
    let q = c.args.name.now in
    absent (is_class_named q) class_item (λ items. file_class_named items q) refl (class_more q) (file_content c.args.self.now.file.now) _ (c.args.self.now.places.class_places q) c.in-None.ensures.value
