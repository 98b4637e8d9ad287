-- The numbers of a file's domain are its own.
use Rattle.std.proofs.Common.{◌≡◌, ◌∙◌, sym, ap, refl, subst, ℕ, ◌<◌, Bool, true, false, cond, List, ◌++◌, length, map, flat_map, nat_lt, None, Some, is_some, All, arith}
use Rattle.std.specs.List.{Contains, position_or_len}
use Rattle.std.proofs.lemmas.Bool.Decides.{nat_tests}
use Rattle.std.proofs.lemmas.List.{length-map}
use Rattle.std.proofs.lemmas.Simd.{map-map}
use Rattle.std.proofs.lemmas.List.Elements.{All-map}
use Rattle.sml_tree.specs.Syntax.{ItemData, class, object, group, ClassData, ObjectData, GroupData}
use Rattle.sml_check_faults.specs.Sound.{FileIsSound}
use Rattle.sml_check_faults.specs.Lookup.{objects_meant}
use Rattle.sml_check_faults.specs.Inside.{StandsBefore, DeclaresObject}
use Rattle.sml_check_faults.proofs.Pairs.{contains_one}
use Rattle.sml_domain.specs.Domain.{Domain}
use Rattle.sml_domain.specs.Names.{same_name, AreDistinct}
use Rattle.sml_domain.specs.Lookups.{name_of_object}
use Rattle.sml_domain.specs.Trees.{trees_of}
use Rattle.sml_domain.specs.Sound.{IsObject, ObjectFits, GroupFits, HaveOneNumber, name_of_class, name_of_group}
use Rattle.sml_check_build.specs.Numbers.{Names, class_list, object_list, group_list, classes_in, objects_in, groups_in, names_of_states, names_of_actions, added_names, names_of, place_or, number}
use Rattle.sml_check_build.specs.Placed.{NameHasNumber}
use Rattle.sml_check_build.specs.Rows.{ClassRow, class_row, class_shown, object_row, group_row}
use Rattle.sml_check_build.specs.FileDomain.{IsDomainOf}
use Rattle.sml_check_build.proofs.Numbered.{all_from, contains_map}
use Rattle.sml_check_build.proofs.Mays.{all_declared, members_may}
use Rattle.sml_check_build.proofs.Apart.{only, distinct_apart, apart_flat}
use Rattle.sml_check_build.proofs.PlacedFiles.{class_number, object_number}
use Rattle.sml_check_faults.specs.Tables.{class_name, object_name, group_name}

pub number_within : (names : List (List ℕ)) (x : List ℕ) → NameHasNumber names x → number names x < length names
number_within names x has = by (nat_lt (position_or_len (same_name x) names) (length names)) refl has
  where
    by : (b : Bool) → nat_lt (position_or_len (same_name x) names) (length names) ≡ b → is_some (cond b (Some (position_or_len (same_name x) names)) None) ≡ true →
        place_or (cond b (Some (position_or_len (same_name x) names)) None) < length names
    by true e h = grind (arith, nat_tests)
    by false e h = cc

-- ---- what a file declares

pub object_in : (file : List ItemData) (o : ObjectData) → Contains (objects_in file) o → Contains file (object o)
object_in file o at = let i = contains_one object_list file o at in by i.0 i.1 i.2
  where
    by : (i : ItemData) → Contains file i → Contains (object_list i) o → Contains file (object o)
    by (class c) it at = absurd (omega (at.1, arith))
    by (object p) it at = subst (λ q. Contains file (object q)) (only p o at) it
    by (group g) it at = absurd (omega (at.1, arith))

pub group_in : (file : List ItemData) (g : GroupData) → Contains (groups_in file) g → Contains file (group g)
group_in file g at = let i = contains_one group_list file g at in by i.0 i.1 i.2
  where
    by : (i : ItemData) → Contains file i → Contains (group_list i) g → Contains file (group g)
    by (class c) it at = absurd (omega (at.1, arith))
    by (object o) it at = absurd (omega (at.1, arith))
    by (group h) it at = subst (λ q. Contains file (group q)) (only h g at) it

pub class_in : (file : List ItemData) (c : ClassData) → Contains (classes_in file) c → Contains file (class c)
class_in file c at = let i = contains_one class_list file c at in by i.0 i.1 i.2
  where
    by : (i : ItemData) → Contains file i → Contains (class_list i) c → Contains file (class c)
    by (class b) it at = subst (λ q. Contains file (class q)) (only b c at) it
    by (object o) it at = absurd (omega (at.1, arith))
    by (group g) it at = absurd (omega (at.1, arith))

-- ---- objects, sets and names

module _ (file : List ItemData) (d : Domain) (is : IsDomainOf file d) (ok : FileIsSound file) where
  abbrev names : Names
  names = names_of file

  pub class_count : length names.classes ≡ length d.classes
  class_count =
      length-map (classes_in file) class_name ∙ sym (length-map (classes_in file) (class_row names)) ∙ sym (ap length is.classes) ∙ length-map d.classes (class_shown (trees_of d.blocks))

  pub object_count : length names.objects ≡ length d.objects
  object_count = length-map (objects_in file) object_name ∙ sym (length-map (objects_in file) (object_row names)) ∙ sym (ap length is.objects)

  pub objects_fit : All (ObjectFits d) d.objects
  objects_fit =
      subst (All (ObjectFits d)) (sym is.objects)
      (All-map (ObjectFits d) (object_row names) (objects_in file)
      (all_from (λ o. ObjectFits d (object_row names o)) (objects_in file)
      (λ o at. subst (λ k. number names.classes o.class < k) class_count (number_within names.classes o.class (class_number file o.class (ok.objects_have_classes o (object_in file o at)))))))

  pub groups_fit : All (GroupFits d) d.groups
  groups_fit =
      subst (All (GroupFits d)) (sym is.groups)
      (All-map (GroupFits d) (group_row file names) (groups_in file)
      (all_from (λ g. GroupFits d (group_row file names g)) (groups_in file)
      (λ g at.
      let n = number names.objects in
      let may = objects_meant file true g.name in
      let object_fits : (x : List ℕ) → DeclaresObject file x
      → IsObject d (n x) = λ x o. subst (λ k. n x < k) object_count
      (number_within names.objects x (object_number file x o)) in
      record {
        members = All-map (IsObject d) n g.members (all_from (λ x. IsObject d (n x)) g.members
            (λ x in_it. object_fits x (ok.members_are_objects g (group_in file g at) x in_it)));
        may = All-map (IsObject d) n may (all_from (λ x. IsObject d (n x)) may
            (λ x in_it. object_fits x (all_declared file ok g.name x in_it)));
        some = All-map (Contains (map n may)) n g.members (all_from (λ x. Contains (map n may) (n x)) g.members
            (λ x in_it. contains_map n may x (members_may file ok g (group_in file g at) x in_it)));
      })))

  one_object : (i : ItemData) → AreDistinct (map object_name (object_list i))
  one_object (class c) = tt
  one_object (object o) = (refl, tt)
  one_object (group g) = tt

  two_objects : (i j : ItemData) (o p : ObjectData) → StandsBefore i j file → Contains (object_list i) o → Contains (object_list j) p → o.name ≡ p.name → ⊥
  two_objects (object a) (object b) o p s at bt e = ok.different.objects a b s (ap object_name (only a o at) ∙ e ∙ sym (ap object_name (only b p bt)))
  two_objects (class c) j o p s at bt e = omega (at.1, arith)
  two_objects (group g) j o p s at bt e = omega (at.1, arith)
  two_objects (object a) (class c) o p s at bt e = omega (bt.1, arith)
  two_objects (object a) (group g) o p s at bt e = omega (bt.1, arith)

  pub objects_apart : AreDistinct (map object_name (objects_in file))
  objects_apart = apart_flat object_name object_list file one_object two_objects

  one_class : (i : ItemData) → AreDistinct (map class_name (class_list i))
  one_class (class c) = (refl, tt)
  one_class (object o) = tt
  one_class (group g) = tt

  two_classes : (i j : ItemData) (b c : ClassData) → StandsBefore i j file → Contains (class_list i) b → Contains (class_list j) c → b.name ≡ c.name → ⊥
  two_classes (class x) (class y) b c s at bt e = ok.different.classes x y s (ap class_name (only x b at) ∙ e ∙ sym (ap class_name (only y c bt)))
  two_classes (object o) j b c s at bt e = omega (at.1, arith)
  two_classes (group g) j b c s at bt e = omega (at.1, arith)
  two_classes (class x) (object o) b c s at bt e = omega (bt.1, arith)
  two_classes (class x) (group g) b c s at bt e = omega (bt.1, arith)

  one_group : (i : ItemData) → AreDistinct (map group_name (group_list i))
  one_group (class c) = tt
  one_group (object o) = tt
  one_group (group g) = (refl, tt)

  two_groups : (i j : ItemData) (g h : GroupData) → StandsBefore i j file → Contains (group_list i) g → Contains (group_list j) h → g.name ≡ h.name → ⊥
  two_groups (group x) (group y) g h s at bt e = ok.different.sets x y s (ap group_name (only x g at) ∙ e ∙ sym (ap group_name (only y h bt)))
  two_groups (object o) j g h s at bt e = omega (at.1, arith)
  two_groups (class c) j g h s at bt e = omega (at.1, arith)
  two_groups (group x) (object o) g h s at bt e = omega (bt.1, arith)
  two_groups (group x) (class c) g h s at bt e = omega (bt.1, arith)

  pub groups_apart : AreDistinct (map group_name (groups_in file))
  groups_apart = apart_flat group_name group_list file one_group two_groups

  pub group_count : length names.groups ≡ length d.groups
  group_count = length-map (groups_in file) group_name ∙ sym (length-map (groups_in file) (group_row file names))
      ∙ sym (ap length is.groups)

  pub classes_apart : AreDistinct (map class_name (classes_in file))
  classes_apart = apart_flat class_name class_list file one_class two_classes

  abbrev name_of_row : ClassRow → List ℕ
  name_of_row r = r.name

  -- the classes of the domain have the names that the file gives them
  class_names : map name_of_class d.classes ≡ map class_name (classes_in file)
  class_names =
      sym (map-map name_of_row (class_shown (trees_of d.blocks)) d.classes) ∙ ap (map name_of_row) is.classes ∙ map-map name_of_row (class_row names) (classes_in file)

  pub one_number : HaveOneNumber d
  one_number = record {
    objects = subst AreDistinct (sym (ap (map name_of_object) is.objects ∙ map-map name_of_object (object_row names) (objects_in file))) objects_apart;
    classes = subst AreDistinct (sym class_names) classes_apart;
    groups = subst AreDistinct (sym (ap (map name_of_group) is.groups
        ∙ map-map name_of_group (group_row file names) (groups_in file))) groups_apart;
    states = subst AreDistinct (sym is.states) (distinct_apart (flat_map names_of_states (classes_in file) ++ added_names (classes_in file)));
    actions = subst AreDistinct (sym is.actions) (distinct_apart (flat_map names_of_actions (classes_in file)));
  }
