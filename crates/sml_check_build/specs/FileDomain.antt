-- The domain of a file.
use Rattle.std.specs.Prelude.{◌≡◌, List, map, length}
use Rattle.std.specs.List.{AllByRecursion}
use Rattle.sml_tree.specs.Syntax.{ItemData}
use Rattle.sml_domain.specs.Trees.{trees_of}
use Rattle.sml_domain.specs.Domain.{Domain}
use Rattle.sml_check_build.specs.Numbers.{names_of, classes_in, objects_in, groups_in, state_names, action_names}
use Rattle.sml_domain.specs.Places.{AreOrdered}
use Rattle.sml_check_build.specs.Grown.{ClassThere}
use Rattle.sml_check_build.specs.Rows.{class_row, class_shown, object_row, group_row}
use Rattle.sml_check_build.specs.Layout.{classes_laid, file_blocks}

-- the domain of a file, with each number that it has
abbrev pub domain_of : List ItemData → Domain
domain_of file = record {
  objects = map (object_row (names_of file)) (objects_in file);
  classes = classes_laid (names_of file) (classes_in file);
  groups = map (group_row file (names_of file)) (groups_in file);
  states = state_names (classes_in file);
  actions = action_names (classes_in file);
  blocks = file_blocks (names_of file) (classes_in file);
}

-- a domain is that of a file, and says what the file says: the same names by the same numbers, and the same programs
pub record IsDomainOf (file : List ItemData) (d : Domain) : Type 0 where
  pub laid : d ≡ domain_of file
  pub objects : d.objects ≡ map (object_row (names_of file)) (objects_in file)
  pub classes : map (class_shown (trees_of d.blocks)) d.classes ≡ map (class_row (names_of file)) (classes_in file)
  pub groups : d.groups ≡ map (group_row file (names_of file)) (groups_in file)
  pub states : d.states ≡ state_names (classes_in file)
  pub actions : d.actions ≡ action_names (classes_in file)

-- the blocks of a domain are behind those that they name, and those of its actions are there
pub record AreInPlace (d : Domain) : Type 0 where
  pub ordered : AreOrdered 0 d.blocks
  pub there : AllByRecursion (ClassThere (length d.blocks)) d.classes
