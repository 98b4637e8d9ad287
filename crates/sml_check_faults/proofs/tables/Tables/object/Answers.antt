use Rattle.std.proofs.Common.{refl, ◌∙◌}
use Rattle.sml_tree.specs.Content.{file_content}
use Rattle.sml_check_faults.specs.Lookup.{file_object_named}
use Rattle.sml_check_faults.specs.Repeats.{is_object_named}
use Rattle.sml_check_faults.specs.Tables.{object_item}
use Rattle.sml_check_faults.proofs.Places.{placed, absent, object_more}
use Rattle.sml_check_faults.proofs.tables.Tables.object.Goals as goal

pub returns-in-Some : goal.returns-in-Some
returns-in-Some g c =
    let q = c.args.name.now in
    c.object_at.ensures
    ∙ placed (is_object_named q) object_item (λ items. file_object_named items q) refl (object_more q) (file_content c.args.self.now.file.now) _ c.in-Some.place.now
    (c.args.self.now.places.object_places q) c.in-Some.ensures.value

pub returns-in-None : goal.returns-in-None
returns-in-None g c =
    let q = c.args.name.now in
    absent (is_object_named q) object_item (λ items. file_object_named items q) refl (object_more q) (file_content c.args.self.now.file.now) _ (c.args.self.now.places.object_places q) c.in-None.ensures.value
