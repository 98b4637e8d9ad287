-- What the sets of a well-formed file may come to have.
use Rattle.std.proofs.Common.{◌≡◌, ap, refl, ℕ, true, List, fold, ◌⊎◌, inl, inr}
use Rattle.std.specs.List.{Contains}
use Rattle.sml_tree.specs.Syntax.{ItemData, group, GroupData}
use Rattle.sml_check_faults.specs.Lookup.{with_name, inserted_in, may_have, objects_meant}
use Rattle.sml_check_faults.specs.Inside.{DeclaresObject, IsInserted, SpeaksOf}
use Rattle.sml_check_faults.specs.Kinds.{IsWellFormed}
use Rattle.sml_check_faults.specs.Sound.{FileIsSound}
use Rattle.sml_check_faults.proofs.Named.{meant, spoken, group_is}
use Rattle.sml_check_faults.proofs.Rules.{keeps_rules}
use Rattle.sml_check_build.specs.Numbers.{names_of}
use Rattle.sml_check_build.specs.Placed.{NameHasNumber, MayPlaced}
use Rattle.sml_check_build.proofs.Numbered.{all_from}
use Rattle.sml_check_build.proofs.PlacedFiles.{object_number}

module _ (file : List ItemData) (ok : FileIsSound file) where
  -- each object that a set may come to have is declared
  pub may_declared : (set o : List ℕ) → SpeaksOf file true set o → DeclaresObject file o
  may_declared set o it = by it.3
    where
      by : Contains it.0.members o ⊎ IsInserted file set o → DeclaresObject file o
      by (inl member) = ok.members_are_objects it.0 it.1 o member
      by (inr inserted) = inserted.declared

  pub all_declared : (set o : List ℕ) → Contains (objects_meant file true set) o → DeclaresObject file o
  all_declared set o at = may_declared set o (spoken file true set o at)

  pub may_placed : MayPlaced (names_of file) file
  may_placed set = all_from (NameHasNumber (names_of file).objects) (objects_meant file true set)
      (λ o at. object_number file o (all_declared set o at))

  -- the members of a set are among those
  pub members_may : (g : GroupData) → Contains file (group g) → (o : List ℕ) → Contains g.members o
      → Contains (objects_meant file true g.name) o
  members_may g at o member = meant file ok.different true g.name o (g, at, refl, inl member)

  -- they are the members, and what is inserted
  pub may_is : (g : GroupData) → Contains file (group g) → objects_meant file true g.name
      ≡ fold with_name g.members (inserted_in file g.name)
  may_is g at = ap (may_have file g.name) (group_is file ok.different g.name g at refl)

-- so it is where there is no fault
pub may_placed_of : (file : List ItemData) → IsWellFormed file → MayPlaced (names_of file) file
may_placed_of file ok = may_placed file (keeps_rules file ok)
