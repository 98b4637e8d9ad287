-- The rules that well-formed files keep, and no others.
use Rattle.std.specs.Prelude.{List}
use Rattle.sml_tree.specs.Syntax.{ItemData}
use Rattle.sml_check_faults.specs.Kinds.{IsWellFormed}
use Rattle.sml_check_faults.specs.PairLaws.{AreDifferent}
use Rattle.sml_check_faults.specs.Laws.{ObjectsHaveClasses, MembersAreObjects, TargetsAreDeclared, TestsAreDeclared, ChangesAreDeclared, TargetsHaveActions, ArgumentsAreComplete, ClassesHaveStates, OneIsInitial, OneIsDead, AssociatedAreEmpty, TestsAskOthers, ParamsAgree}
use Rattle.sml_check_faults.specs.ValueLaws.{EndsAreStates, TestsNameStates, FileArgumentsHaveKinds, FileArgumentsFit, SetsFit, ClassDefaultsFit, ActionDefaultsFit}

-- a file that keeps all rules
pub record FileIsSound (file : List ItemData) : Type 0 where
  pub different : AreDifferent file
  pub objects_have_classes : ObjectsHaveClasses file
  pub members_are_objects : MembersAreObjects file
  pub targets_are_declared : TargetsAreDeclared file
  pub tests_are_declared : TestsAreDeclared file
  pub changes_are_declared : ChangesAreDeclared file
  pub targets_have_actions : TargetsHaveActions file
  pub arguments_are_complete : ArgumentsAreComplete file
  pub arguments_have_kinds : FileArgumentsHaveKinds file
  pub arguments_fit : FileArgumentsFit file
  pub sets_fit : SetsFit file
  pub class_defaults_fit : ClassDefaultsFit file
  pub action_defaults_fit : ActionDefaultsFit file
  pub ends_are_states : EndsAreStates file
  pub tests_name_states : TestsNameStates file
  pub tests_ask_others : TestsAskOthers file
  pub classes_have_states : ClassesHaveStates file
  pub one_is_initial : OneIsInitial file
  pub one_is_dead : OneIsDead file
  pub associated_are_empty : AssociatedAreEmpty file
  pub params_agree : ParamsAgree file

-- a file that keeps all rules is well-formed
abbrev pub SoundIsWellFormed : Type 0
SoundIsWellFormed = (file : List ItemData) → FileIsSound file → IsWellFormed file
