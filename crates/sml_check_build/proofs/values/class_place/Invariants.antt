use Rattle.std.proofs.Common.{◌≡◌, map, drop}
use Rattle.std.specs.List.{position_from}
use Rattle.sml_check_faults.specs.Lookup.{is_class_param}
use Rattle.sml_tree.specs.Content.{class_content, class_param_content}
use Rattle.sml_check_build.specs.Programs as says
use Rattle.sml_check_build.proofs.values.class_place.Given as goal

abbrev pub invariant-loop-i : goal.invariant-loop-i
invariant-loop-i g l = position_from (is_class_param l.name) l.i (map class_param_content (drop l.i l.class.params.items)) ≡ says.class_place (class_content l.class) l.name
