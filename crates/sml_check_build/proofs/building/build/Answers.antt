use Rattle.std.proofs.Common.{subst, sym}
use Rattle.sml_tree.specs.Content.{file_content}
use Rattle.sml_domain.specs.Sound.{IsSound}
use Rattle.sml_check_build.proofs.LaidFiles.{is_in_place}
use Rattle.sml_check_build.proofs.Soundness.{domain_is_sound}
use Rattle.sml_check_build.proofs.building.build.Goals as goal

pub from_parts-requires-clause-sound : goal.from_parts-requires-clause-sound
from_parts-requires-clause-sound g c =
    let file = file_content c.args.tables.now.file.now in
    let d = c.in_ok-objects.field-0 in
    subst IsSound (sym c.objects.view_is) (domain_is_sound file d c.requires.well_formed c.in_ok-objects.ensures (is_in_place file d c.in_ok-objects.ensures.laid))
