-- The members of a set of a file's domain have different numbers.
use Rattle.std.proofs.Common.{◌≡◌, ◌∙◌, sym, ap, subst, refl, ℕ, Bool, true, false, ◌||◌, List, [], ◌∷◌, ◌++◌, fold, map, nat_eq, All, if◌then◌else◌, arith}
use Rattle.std.specs.Prelude.{◌≢◌}
use Rattle.std.specs.List.{Contains, list_any}
use Rattle.std.proofs.lemmas.Bool.Decides.{nat_tests}
use Rattle.std.proofs.lemmas.List.{map-append}
use Rattle.std.proofs.lemmas.List.Folds.{list_any-append}
use Rattle.std.proofs.lemmas.List.Elements.{All-map}
use Rattle.sml_tree.specs.Syntax.{ItemData}
use Rattle.sml_check_faults.specs.Lookup.{named, among, with_name, inserted_in}
use Rattle.sml_check_faults.specs.Inside.{StandsBefore}
use Rattle.sml_check_faults.specs.Sound.{FileIsSound}
use Rattle.sml_check_faults.proofs.Inserted.{kept, added, all_kept}
use Rattle.sml_check_faults.proofs.Pairs.{none_from, contains_here, contains_next, any_at, named_same, not_false}
use Rattle.sml_domain.specs.Domain.{Domain}
use Rattle.sml_domain.specs.Sound.{EachOnce, MembersDiffer}
use Rattle.sml_check_build.specs.Numbers.{names_of, groups_in, number}
use Rattle.sml_check_build.specs.Placed.{NameHasNumber}
use Rattle.sml_check_build.specs.Rows.{group_row}
use Rattle.sml_check_build.specs.FileDomain.{IsDomainOf}
use Rattle.sml_check_build.proofs.Numbered.{all_from}
use Rattle.sml_check_build.proofs.Mays.{all_declared, may_is}
use Rattle.sml_check_build.proofs.Apart.{contains_unmap, stands_first, stands_next}
use Rattle.sml_check_build.proofs.PlacedFiles.{object_number}
use Rattle.sml_check_build.proofs.Ranges.{group_in}
use Rattle.sml_check_build.proofs.ClassRanges.{other_number}
use Rattle.sml_check_build.proofs.ObjectRows.{one_name}

-- names of which no two are one have different numbers
numbers_once : (names xs : List (List ℕ)) → ((x : List ℕ) → Contains xs x → NameHasNumber names x) → ((x y : List ℕ) → StandsBefore x y xs → x ≢ y) → EachOnce (map (number names) xs)
numbers_once names [] has differ = tt
numbers_once names (x ∷ xs) has differ = (
  none_from (nat_eq (number names x)) (map (number names) xs)
      (λ m at. let y = contains_unmap (number names) xs m at in
      other_number (number names x) m
      (λ e. differ x y.0 (stands_first x y.0 xs y.1) (one_name names x y.0 (has x (contains_here x xs)) (has y.0 (contains_next x xs y.0 y.1)) (e ∙ sym y.2)))),
  numbers_once names xs (λ y at. has y (contains_next x xs y at)) (λ y z s. differ y z (stands_next x y z xs s)),
)

-- ---- no number is there twice

or_nothing : (b : Bool) → b ≡ false → (b || false) ≡ false
or_nothing b e = ap (λ x. x || false) e

either_not : (a b : Bool) → a ≡ false → b ≡ false → (a || b) ≡ false
either_not a b e f = ap (λ x. x || b) e ∙ f

first_not : (a b : Bool) → (a || b) ≡ false → a ≡ false
first_not true b e = e
first_not false b e = refl

rest_not : (a b : Bool) → (a || b) ≡ false → b ≡ false
rest_not true b e = absurd (not_false e)
rest_not false b e = e

turned : (j k : ℕ) → nat_eq j k ≡ false → nat_eq k j ≡ false
turned j k e = grind (arith, nat_tests)

-- one number more, which is not among them
once_pushed : (ks : List ℕ) (k : ℕ) → EachOnce ks → list_any (nat_eq k) ks ≡ false → EachOnce (ks ++ k ∷ [])
once_pushed [] k once none = (refl, tt)
once_pushed (j ∷ ks) k once none = (
  list_any-append (nat_eq j) ks (k ∷ []) ∙ either_not (list_any (nat_eq j) ks) (nat_eq j k || false) once.0
      (or_nothing (nat_eq j k) (turned k j (first_not (nat_eq k j) (list_any (nat_eq k) ks) none))),
  once_pushed ks k once.1 (rest_not (nat_eq k j) (list_any (nat_eq k) ks) none),
)

module _ (names : List (List ℕ)) where
  -- one name more
  one_once : (xs : List (List ℕ)) (n : List ℕ) → ((x : List ℕ) → Contains xs x → NameHasNumber names x)
      → NameHasNumber names n → EachOnce (map (number names) xs) → EachOnce (map (number names) (with_name xs n))
  one_once xs n has has_n once = by (among xs n) refl
    where
      other : among xs n ≡ false → (m : ℕ) → Contains (map (number names) xs) m → nat_eq (number names n) m ≡ false
      other none m at =
          let y = contains_unmap (number names) xs m at in
          other_number (number names n) m
          (λ e.
          let same = one_name names n y.0 has_n (has y.0 y.1) (e ∙ sym y.2) in
          not_false (sym (any_at (named n) xs y.0 y.1 (named_same n y.0 same)) ∙ none))

      by : (b : Bool) → among xs n ≡ b → EachOnce (map (number names) (if b then xs else xs ++ n ∷ []))
      by true e = once
      by false e = subst EachOnce (sym (map-append (number names) xs (n ∷ []))) (once_pushed (map (number names) xs)
          (number names n) once (none_from (nat_eq (number names n)) (map (number names) xs) (other e)))

  -- some names more
  pub all_once : (xs ns : List (List ℕ)) → ((x : List ℕ) → Contains (fold with_name xs ns) x → NameHasNumber names x)
      → EachOnce (map (number names) xs) → EachOnce (map (number names) (fold with_name xs ns))
  all_once xs [] has once = once
  all_once xs (n ∷ ns) has once =
      all_once (with_name xs n) ns has
      (one_once xs n (λ x at. has x (all_kept (with_name xs n) ns x (kept xs n x at)))
      (has n (all_kept (with_name xs n) ns n (added xs n))) once)

pub members_differ : (file : List ItemData) (d : Domain) → IsDomainOf file d → FileIsSound file → All MembersDiffer d.groups
members_differ file d is ok =
    let names = names_of file in
    subst (All MembersDiffer) (sym is.groups)
    (All-map MembersDiffer (group_row file names) (groups_in file)
    (all_from (λ g. MembersDiffer (group_row file names g)) (groups_in file)
    (λ g at.
    let once = numbers_once names.objects g.members (λ x in_it. object_number file x (ok.members_are_objects g (group_in file g at) x in_it)) (ok.different.members g (group_in file g at)) in
    let is_may = may_is file ok g (group_in file g at) in
    record {
      members = once;
      may = subst (λ xs. EachOnce (map (number names.objects) xs)) (sym is_may)
          (all_once names.objects g.members (inserted_in file g.name)
          (λ x in_it. object_number file x
          (all_declared file ok g.name x (subst (λ xs. Contains xs x) (sym is_may) in_it))) once);
    })))
