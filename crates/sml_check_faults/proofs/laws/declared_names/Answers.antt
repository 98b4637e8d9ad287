use Rattle.sml_check_faults.proofs.Declared.{objects_have_classes, members_are_objects, targets_are_declared, tests_are_declared, changes_are_declared}
use Rattle.sml_check_faults.proofs.laws.declared_names.Goals as goal

pub returns : goal.returns
returns c = record {
  classes = objects_have_classes;
  members = members_are_objects;
  targets =
      targets_are_declared;
  tests = tests_are_declared;
  changes = changes_are_declared;
}
