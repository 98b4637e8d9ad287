-- What a domain of a file says of an object of the file, by its number.
use Rattle.std.proofs.Common.{◌≡◌, ◌∙◌, sym, ap, refl, subst, ℕ, ◌==◌, Bool, true, List, [], length, map, Option, None, Some, is_some, option_map, eq-eqb}
use Rattle.std.specs.Prelude.{find, slice_get}
use Rattle.std.specs.List.{Contains}
use Rattle.std.specs.Option.{option_and_then}
use Rattle.std.proofs.lemmas.Option.{same_Some, slice_get_read}
use Rattle.std.proofs.lemmas.Bool.{eqb-true}
use Rattle.sml_tree.specs.Syntax.{ItemData, class, object, ClassData, ObjectData}
use Rattle.sml_check_faults.specs.Lookup.{file_action_named}
use Rattle.sml_check_faults.specs.Sound.{FileIsSound}
use Rattle.sml_check_faults.proofs.Pairs.{any_at, any_there, found_any, same_names, contains_all, contains_here}
use Rattle.sml_check_faults.proofs.Named.{found, Found}
use Rattle.sml_domain.specs.Domain.{Domain}
use Rattle.sml_domain.specs.Names.{same_name, AreDistinct, distinct}
use Rattle.sml_domain.specs.Lookups.{class_at, class_number, params_at, params_of_action, is_signature}
use Rattle.sml_domain.specs.Trees.{trees_of}
use Rattle.sml_domain.proofs.Finds.{find_map}
use Rattle.sml_domain.proofs.Numbers.{first_there, has_there}
use Rattle.sml_check_build.specs.Numbers.{Names, names_of, names_of_actions, object_list, objects_in, classes_in, place, place_or, number}
use Rattle.sml_check_build.specs.Placed.{NameHasNumber}
use Rattle.sml_check_build.specs.Rows.{class_row, class_shown, object_row, signature_row, signature_rows, params_where}
use Rattle.sml_check_build.specs.FileDomain.{IsDomainOf}
use Rattle.sml_check_build.proofs.Alike.{position_map, got_map, params_by}
use Rattle.sml_check_build.proofs.Numbered.{distinct_from, distinct_has, placed_any}
use Rattle.sml_check_build.proofs.PlacedFiles.{named_action, class_there}
use Rattle.sml_check_build.proofs.Ranges.{objects_apart, classes_apart}
use Rattle.sml_check_faults.specs.Tables.{class_name, object_name}

pub at_place : (o : Option ℕ) → is_some o ≡ true → o ≡ Some (place_or o)
at_place None h = cc
at_place (Some k) h = refl

same_list : (o : Option (List ℕ)) → option_map (λ y. y) o ≡ o
same_list None = refl
same_list (Some x) = refl

-- what is at the number of a name has the name
there_named : (names : List (List ℕ)) (x : List ℕ) → NameHasNumber names x → slice_get names (number names x) ≡ Some x
there_named names x h = sym (same_list (slice_get names (number names x))) ∙ has_there (λ y. y) names (number names x) x (at_place (place names x) h)

-- names with one number are one
pub one_name : (names : List (List ℕ)) (x y : List ℕ) → NameHasNumber names x → NameHasNumber names y → number names x ≡ number names y → x ≡ y
one_name names x y h g e = same_Some x y (sym (there_named names x h) ∙ ap (slice_get names) e ∙ there_named names y g)

-- what is at the number of its name
pub stands_there : {X : Type 0} (f : X → List ℕ) (xs : List X) (x : X) → AreDistinct (map f xs) → Contains xs x → slice_get xs (number (map f xs) (f x)) ≡ Some x
stands_there f xs x apart at =
    let got : slice_get xs at.0 ≡ Some x = slice_get_read xs (length xs) at.0 x refl at.1 (sym at.2) in
    ap (λ o. slice_get xs (place_or o)) (position_map f (same_name (f x)) xs ∙ first_there f xs at.0 x apart got) ∙ got

module _ (file : List ItemData) (d : Domain) (is : IsDomainOf file d) (ok : FileIsSound file) where
  abbrev n : Names
  n = names_of file

  -- the class of an object, by the number of its name
  class_of_object : (o : ObjectData) → Contains file (object o) → (c : ClassData) → Contains file (class c) → c.name ≡ o.class → option_map (class_shown (trees_of d.blocks)) (class_at d (number n.objects o.name)) ≡ Some (class_row n c)
  class_of_object o o_at c at named =
      let row : slice_get d.objects (number n.objects o.name) ≡ Some (object_row n o) =
      ap (λ os. slice_get os (number n.objects o.name)) is.objects ∙ got_map (object_row n) (objects_in file) (number n.objects o.name)
      ∙ ap (option_map (object_row n)) (stands_there object_name (objects_in file) o (objects_apart file d is ok) (contains_all object_list file (object o) o o_at (contains_here o []))) in
      let k = number n.classes o.class in
      ap (λ r. option_map (class_shown (trees_of d.blocks)) (option_and_then (slice_get d.classes) (option_map class_number r))) row
      ∙ sym (got_map (class_shown (trees_of d.blocks)) d.classes k) ∙ ap (λ rows. slice_get rows k) is.classes ∙ got_map (class_row n) (classes_in file) k
      ∙ ap (λ x. option_map (class_row n) (slice_get (classes_in file) (number n.classes x))) (sym named)
      ∙ ap (option_map (class_row n)) (stands_there class_name (classes_in file) c (classes_apart file d is ok) (class_there file c at))

  -- the parameters of an action of a class, by the number of its name
  pub signature_there : (c : ClassData) → Contains file (class c) → (y : List ℕ) → Contains (names_of_actions c) y → find (is_signature (number n.actions y)) (signature_rows n c) ≡ Some (signature_row n c y)
  signature_there c at y in_it =
      let names = distinct (names_of_actions c) in
      let test : List ℕ → Bool = λ z. number n.actions z == number n.actions y in
      let one = any_there (same_name y) names (sym (placed_any (same_name y) names) ∙ distinct_has (names_of_actions c) y in_it) in
      let here : test one.0 ≡ true = eq-eqb (number n.actions one.0) (number n.actions y) (ap (number n.actions) (sym (same_names y one.0 one.2))) in
      let f : Found test names = found test names (found_any test names ∙ any_at test names one.0 one.1 here) in
      let m = distinct_from (names_of_actions c) f.item f.at in
      let its = named_action file c at f.item (subst (Contains (names_of_actions c)) (sym (same_names f.item m.0 m.2)) m.1) in
      let same : f.item ≡ y = one_name n.actions f.item y its (named_action file c at y in_it) (eqb-true (number n.actions f.item) (number n.actions y) f.passes) in
      find_map (signature_row n c) (is_signature (number n.actions y)) names ∙ ap (option_map (signature_row n c)) f.is ∙ ap (λ z. Some (signature_row n c z)) same

  -- the parameters of an action at an object
  pub params_there : (o : ObjectData) → Contains file (object o) → (c : ClassData) → Contains file (class c) → c.name ≡ o.class → (y : List ℕ) → Contains (names_of_actions c) y →
      params_at d (number n.objects o.name) (number n.actions y) ≡ Some (params_where (file_action_named c y))
  params_there o o_at c at named y in_it =
      ap (option_map params_of_action)
      (params_by d (number n.actions y) (class_at d (number n.objects o.name))
      ∙ ap (option_and_then (λ r. find (is_signature (number n.actions y)) r.signatures)) (class_of_object o o_at c at named)
      ∙ signature_there c at y in_it)
