use Rattle.std.proofs.Common.{◌∙◌, ◌++◌, map, length, subst, sym, ap}
use Rattle.sml_tree.specs.Content.{file_content, item_content}
use Rattle.sml_domain.specs.Domain.{Domain}
use Rattle.sml_check_build.specs.Numbers.{Names, names_of, objects_in, classes_in, groups_in}
use Rattle.sml_check_build.specs.Placed.{FilePlaced, MayPlaced, NamesDiffer}
use Rattle.sml_check_build.specs.Rows.{object_row, group_row}
use Rattle.sml_check_build.specs.Layout.{rows_from, blocks_from, class_laid, class_blocks, blocks_of_class}
use Rattle.std.proofs.lemmas.Simd.{map-map}
use Rattle.sml_domain.specs.Lookups.{name_of_object}
use Rattle.sml_check_build.proofs.PlacedFiles.{placed_of}
use Rattle.sml_check_build.proofs.NamesDiffer.{names_differ}
use Rattle.sml_check_build.proofs.Mays.{may_placed_of}
use Rattle.sml_check_build.proofs.LaidFiles.{laid_file, is_domain_of}
use Rattle.sml_check_build.proofs.building.lay_out.Goals as goal
use Rattle.sml_check_faults.specs.Tables.{object_name}

pub of-requires : goal.of-requires
of-requires g c = subst (λ items. NamesDiffer (map item_content items)) (sym c.deref.ensures.value) (names_differ (file_content c.args.tables.now.file.now) c.requires.well_formed)

pub parts_of-requires : goal.parts_of-requires
parts_of-requires g c =
    let names = c.in_ok-names.names in
    let file = map item_content c.deref-2.result.now in
    ap (λ (n : Names). n.objects) c.in_ok-names.ensures
    ∙ ap (λ items. map object_name (objects_in (map item_content items))) (c.deref.ensures.value ∙ sym c.deref-2.ensures.value)
    ∙ sym (map-map name_of_object (object_row names) (objects_in file))
    ∙ ap (map name_of_object) (sym c.in_ok-listed.ensures.objects)

pub all_rows-requires-clause-items : goal.all_rows-requires-clause-items
all_rows-requires-clause-items g c =
    let file = file_content c.args.tables.now.file.now in
    let named = c.in_ok-names.ensures ∙ ap (λ items. names_of (map item_content items)) c.deref.ensures.value in
    subst (λ items. FilePlaced c.in_ok-names.names (map item_content items)) (sym c.deref-2.ensures.value)
    (subst (λ n. FilePlaced n file) (sym named) (placed_of file c.requires.well_formed c.requires.texts))

pub all_rows-requires-clause-may : goal.all_rows-requires-clause-may
all_rows-requires-clause-may g c =
    let file = file_content c.args.tables.now.file.now in
    let named = c.in_ok-names.ensures ∙ ap (λ items. names_of (map item_content items)) c.deref.ensures.value in
    subst (λ n. MayPlaced n file) (sym named) (may_placed_of file c.requires.well_formed)

pub returns : goal.returns
returns g c =
    let file = file_content c.args.tables.now.file.now in
    let named = c.in_ok-names.ensures ∙ ap (λ items. names_of (map item_content items)) c.deref.ensures.value in
    let same = ap (map item_content) c.deref-2.ensures.value in
    let made = c.in_ok-listed.ensures in
    let names = c.in_ok-names.names in
    let parts = c.parts_of.ensures in
    is_domain_of file c.parts_of.result
    (laid_file file c.parts_of.result _ _ named c.new-blocks.ensures
    (ap (λ (d : Domain). d.objects) parts ∙ made.objects ∙ ap (λ f. map (object_row names) (objects_in f)) same)
    (ap (λ (d : Domain). d.classes) parts ∙ made.classes
    ∙ ap (λ f. rows_from (class_laid names) blocks_of_class (length c.new-blocks.result) (classes_in f)) same)
    (ap (λ (d : Domain). d.groups) parts ∙ made.groups ∙ ap (λ f. map (group_row file names) (groups_in f)) same)
    (ap (λ (d : Domain). d.states) parts) (ap (λ (d : Domain). d.actions) parts)
    (ap (λ (d : Domain). d.blocks) parts ∙ made.blocks
    ∙ ap (λ f. c.new-blocks.result
    ++ blocks_from (class_blocks names) blocks_of_class (length c.new-blocks.result) (classes_in f)) same))
