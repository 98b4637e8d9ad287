-- No two names of one sort are the same in a well-formed file.
use Rattle.std.proofs.Common.{refl, List}
use Rattle.sml_tree.specs.Syntax.{ItemData}
use Rattle.sml_check_faults.specs.Kinds.{IsWellFormed}
use Rattle.sml_check_faults.proofs.Rules.{keeps_rules}
use Rattle.sml_check_build.specs.Placed.{NamesDiffer}
use Rattle.sml_check_build.specs.FileDomain.{domain_of}
use Rattle.sml_check_build.proofs.LaidFiles.{is_domain_of}
use Rattle.sml_check_build.proofs.Ranges.{classes_apart, objects_apart, groups_apart}

pub names_differ : (file : List ItemData) → IsWellFormed file → NamesDiffer file
names_differ file ok =
    let d = domain_of file in
    let is = is_domain_of file d refl in
    let sound = keeps_rules file ok in
    record {
      classes = classes_apart file d is sound;
      objects = objects_apart file d is sound;
      groups = groups_apart file d is sound;
    }
