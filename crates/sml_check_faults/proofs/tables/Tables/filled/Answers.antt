use Rattle.std.proofs.Common.{◌∙◌, ap, map, flat_map}
use Rattle.sml_tree.specs.Content.{item_content, file_content}
use Rattle.sml_check_faults.specs.Tables.{declared_members, names_in, lists_after}
use Rattle.sml_check_faults.specs.Lookup.{item_sites}
use Rattle.sml_check_faults.proofs.Listed.{has_may}
use Rattle.sml_check_faults.proofs.tables.Tables.filled.Goals as goal

pub invariant_of-result : goal.invariant_of-result
invariant_of-result g c =
    let n = c.args.names in
    record {
      places = c.requires.places;
      declared = c.requires.declared;
      comes =
          has_may (file_content c.args.file.now) n.objects n.groups c.requires.places.object_places
          c.requires.places.group_places (map names_in c.in-Ok.may.items)
          (c.in-Ok.ensures ∙ ap (λ items. lists_after n.objects n.groups
          (map declared_members (map item_content items)) (flat_map item_sites (map item_content items)))
          c.deref.ensures.value);
    }
