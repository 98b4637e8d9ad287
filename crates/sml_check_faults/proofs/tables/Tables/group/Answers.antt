use Rattle.std.proofs.Common.{refl, ◌∙◌}
use Rattle.sml_tree.specs.Content.{file_content}
use Rattle.sml_check_faults.specs.Lookup.{group_named}
use Rattle.sml_check_faults.specs.Repeats.{is_group}
use Rattle.sml_check_faults.specs.Tables.{group_item}
use Rattle.sml_check_faults.proofs.Places.{placed, absent, group_more}
use Rattle.sml_check_faults.proofs.tables.Tables.group.Goals as goal

pub returns-in-Some : goal.returns-in-Some
returns-in-Some g c =
    let q = c.args.name.now in
    c.group_at.ensures
    ∙ placed (is_group q) group_item (λ items. group_named items q) refl (group_more q) (file_content c.args.self.now.file.now) _ c.in-Some.place.now
    (c.args.self.now.places.group_places q) c.in-Some.ensures.value

pub returns-in-None : goal.returns-in-None
returns-in-None g c =
    let q = c.args.name.now in
    absent (is_group q) group_item (λ items. group_named items q) refl (group_more q) (file_content c.args.self.now.file.now) _ (c.args.self.now.places.group_places q) c.in-None.ensures.value
