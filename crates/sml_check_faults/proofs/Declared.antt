-- What is declared in a well-formed file.
use Rattle.std.proofs.Common.{◌≡◌, refl, ℕ, Bool, true, false, List, [], arith}
use Rattle.sml_tree.specs.Syntax.{ItemData, object, group}
use Rattle.sml_check_faults.specs.declared.kind.CheckKind.TheVariants.{UnknownClass, UnknownObject, UnknownSet}
use Rattle.sml_check_faults.specs.Sites.{asks, tests, changes}
use Rattle.sml_check_faults.specs.Lookup.{of_set}
use Rattle.sml_check_faults.specs.Faults.{unknown_object, unknown_set}
use Rattle.sml_check_faults.specs.Kinds.{item_faults}
use Rattle.sml_check_faults.specs.Inside.{Declares}
use Rattle.sml_check_faults.specs.Laws.{OfWellFormed, ObjectsHaveClasses, MembersAreObjects, TargetsAreDeclared, TestsAreDeclared, ChangesAreDeclared}
use Rattle.sml_check_faults.proofs.Pairs.{flat_nil, not_so}
use Rattle.sml_check_faults.proofs.Named.{class_there, object_there, group_there}
use Rattle.sml_check_faults.proofs.WellFormed.{no_fault, not_not, at_site}

pub objects_have_classes : OfWellFormed ObjectsHaveClasses
objects_have_classes file ok o at =
    class_there file o.class
    (not_not _ (not_so _ o.class (flat_nil (item_faults UnknownClass file) file (object o) at (no_fault file ok UnknownClass (4, omega arith, refl)))))

pub members_are_objects : OfWellFormed MembersAreObjects
members_are_objects file ok g at n member =
    object_there file n
    (not_not _
    (not_so _ n
    (flat_nil (unknown_object file false) g.members n member (flat_nil (item_faults UnknownObject file) file (group g) at (no_fault file ok UnknownObject (5, omega arith, refl))))))

-- neither fault of a name at a place
declared : (file : List ItemData) (set : Bool) (n : List ℕ) → unknown_object file set n ≡ [] → unknown_set file set n ≡ [] → Declares file set n
declared file false n object_known set_known = object_there file n (not_not _ (not_so _ n object_known))
declared file true n object_known set_known = group_there file n (not_not _ (not_so _ n set_known))

pub targets_are_declared : OfWellFormed TargetsAreDeclared
targets_are_declared file ok c a s at =
    declared file s.all s.target (at_site UnknownObject file (no_fault file ok UnknownObject (5, omega arith, refl)) c a (asks s) at)
    (at_site UnknownSet file (no_fault file ok UnknownSet (6, omega arith, refl)) c a (asks s) at)

pub tests_are_declared : OfWellFormed TestsAreDeclared
tests_are_declared file ok c a t at =
    declared file (of_set t.scope) t.name (at_site UnknownObject file (no_fault file ok UnknownObject (5, omega arith, refl)) c a (tests t) at)
    (at_site UnknownSet file (no_fault file ok UnknownSet (6, omega arith, refl)) c a (tests t) at)

pub changes_are_declared : OfWellFormed ChangesAreDeclared
changes_are_declared file ok c a add m s at = (
  object_there file m (not_not _
      (not_so _ m (at_site UnknownObject file (no_fault file ok UnknownObject (5, omega arith, refl)) c a
      (changes add m s) at))),
  group_there file s (not_not _
      (not_so _ s (at_site UnknownSet file (no_fault file ok UnknownSet (6, omega arith, refl)) c a (changes add m s)
      at))),
)
