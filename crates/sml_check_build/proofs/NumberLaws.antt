-- Which names have numbers in a domain of a file.
use Rattle.std.proofs.Common.{◌≡◌, ◌∙◌, sym, ap, refl, subst, ℕ, suc, ◌<◌, Bool, true, false, List, [], ◌∷◌, ◌++◌, length, map, flat_map, fold, Option, None, Some, is_some, option_map, arith, length-append, if◌then◌else◌}
use Rattle.std.specs.Prelude.{◌≢◌, ◌↔◌, ◌⊎◌, not, slice_get, IsSomeAnd}
use Rattle.std.proofs.Common.{inl, inr}
use Rattle.std.specs.List.{Contains, list_any}
use Rattle.std.proofs.lemmas.Option.{slice_get_within, same_Some}
use Rattle.std.proofs.lemmas.List.Elements.{Contains-append_cases}
use Rattle.sml_tree.specs.Syntax.{ItemData, ClassData, StateData}
use Rattle.sml_check_faults.specs.Lookup.{dead_name, adds_dead, actions, is_dead, named}
use Rattle.sml_check_faults.specs.Inside.{HasState}
use Rattle.sml_check_faults.specs.ValueLaws.{IsAlive}
use Rattle.sml_check_faults.proofs.Pairs.{any_at, any_there, none_of, none_from, first_false, second_false, named_same, not_named, not_false, same_names, contains_one}
use Rattle.sml_domain.specs.Domain.{Domain}
use Rattle.sml_domain.specs.Names.{same_name, distinct_more, distinct, AreDistinct}
use Rattle.sml_domain.proofs.Numbers.{first_there, has_there}
use Rattle.sml_check_build.specs.Numbers.{names_of, classes_in, state_name, action_name, names_of_states, names_of_actions, added_names, place}
use Rattle.sml_check_build.specs.Placed.{NameHasNumber}
use Rattle.sml_check_build.specs.FileDomain.{IsDomainOf}
use Rattle.sml_check_build.specs.Laws.{IsStateOfSome, IsActionOfSome, StatesHaveNumbers, ActionsHaveNumbers, IsOneToOne, NumbersAreOneToOne, OnlyAddsDead, AddedDeadIsLast}
use Rattle.sml_check_build.proofs.Numbered.{placed_any, distinct_from}
use Rattle.sml_check_build.proofs.Apart.{only, distinct_apart, contains_unmap}
use Rattle.sml_check_build.proofs.States.{can_be}
use Rattle.sml_check_build.proofs.PlacedFiles.{class_there, state_number, dead_number, action_number}
use Rattle.sml_check_build.proofs.Ranges.{class_in}

-- ---- names and places

same_list : (xs : List (List ℕ)) → map (λ x. x) xs ≡ xs
same_list [] = refl
same_list (x ∷ xs) = ap (λ ys. x ∷ ys) (same_list xs)

same_option : (o : Option (List ℕ)) → option_map (λ x. x) o ≡ o
same_option None = refl
same_option (Some x) = refl

-- the name at a place has that place
pub place_is : (names : List (List ℕ)) (k : ℕ) (x : List ℕ) → AreDistinct names → slice_get names k ≡ Some x → place names x ≡ Some k
place_is names k x apart there = first_there (λ y. y) names k x (subst AreDistinct (sym (same_list names)) apart) there

-- at the place of a name it stands
pub stands_at : (names : List (List ℕ)) (k : ℕ) (x : List ℕ) → place names x ≡ Some k → slice_get names k ≡ Some x
stands_at names k x is = sym (same_option (slice_get names k)) ∙ has_there (λ y. y) names k x is

one_to_one : (names : List (List ℕ)) → IsOneToOne (place names)
one_to_one names x y k e f = same_Some x y (sym (stands_at names k x e) ∙ stands_at names k y f)

pub numbers_are_one_to_one : NumbersAreOneToOne
numbers_are_one_to_one d = (one_to_one d.states, one_to_one d.actions)

-- a name with a number among distinct ones is one of them
has_from : (names : List (List ℕ)) (x : List ℕ) → NameHasNumber (distinct names) x → Contains names x
has_from names x has =
    let one = any_there (same_name x) (distinct names) (sym (placed_any (same_name x) (distinct names)) ∙ has) in
    let m = distinct_from names one.0 one.1 in
    subst (Contains names) (sym (same_names x one.0 one.2 ∙ same_names one.0 m.0 m.2)) m.1

-- ---- states and actions

module _ (file : List ItemData) where
  abbrev declared : List (List ℕ)
  declared = flat_map names_of_states (classes_in file)

  -- a name that some class declares
  declared_in : (x : List ℕ) → Contains declared x → (c : ClassData) × (s : StateData) × HasState file c s × (s.name ≡ x)
  declared_in x at =
      let c = contains_one names_of_states (classes_in file) x at in
      let s = contains_unmap state_name c.0.states x c.2 in
      (c.0, s.0, record { class_in = class_in file c.0 c.1; state_in = s.1 }, s.2)

  not_so : (b : Bool) → not b ≡ true → b ≡ false
  not_so true e = cc
  not_so false e = refl

  alive : (s : StateData) → is_dead s ≡ false → IsAlive s
  alive s e = (first_false s.dead (named dead_name s.name) e, λ is. not_false (sym (named_same dead_name s.name (sym is)) ∙ second_false s.dead (named dead_name s.name) e))

  added : (x : List ℕ) → Contains (added_names (classes_in file)) x → IsStateOfSome file x
  added x = by (list_any adds_dead (classes_in file)) refl
    where
      by : (b : Bool) → list_any adds_dead (classes_in file) ≡ b → Contains (if b then dead_name ∷ [] else []) x → IsStateOfSome file x
      by false e at = absurd (omega (at.1, arith))
      by true e at =
          let c = any_there adds_dead (classes_in file) e in
          (c.0, class_in file c.0 c.1, inr (sym (only dead_name x at), λ s in_it. alive s (none_of is_dead c.0.states s in_it (not_so (list_any is_dead c.0.states) c.2))))

  state_of_some : (x : List ℕ) → NameHasNumber (names_of file).states x → IsStateOfSome file x
  state_of_some x has = by (Contains-append_cases declared (added_names (classes_in file)) x (has_from (declared ++ added_names (classes_in file)) x has))
    where
      by : Contains declared x ⊎ Contains (added_names (classes_in file)) x → IsStateOfSome file x
      by (inl at) = let s = declared_in x at in (s.0, s.2.class_in, inl (s.1, s.2.state_in, s.3))
      by (inr at) = added x at

  number_of_state : (x : List ℕ) → IsStateOfSome file x → NameHasNumber (names_of file).states x
  number_of_state x one = can_be one.0 (NameHasNumber (names_of file).states) (state_number file one.0 one.1) (dead_number file one.0 one.1) x one.2

  action_of_some : (x : List ℕ) → NameHasNumber (names_of file).actions x → IsActionOfSome file x
  action_of_some x has =
      let c = contains_one names_of_actions (classes_in file) x (has_from (flat_map names_of_actions (classes_in file)) x has) in
      let a = contains_unmap action_name (actions c.0) x c.2 in
      (c.0, a.0, record { class_in = class_in file c.0 c.1; action_in = a.1 }, a.2)

  number_of_action : (x : List ℕ) → IsActionOfSome file x → NameHasNumber (names_of file).actions x
  number_of_action x one = subst (NameHasNumber (names_of file).actions) one.3 (action_number file one.0 one.2.class_in one.1 one.2.action_in)

pub states_have_numbers : StatesHaveNumbers
states_have_numbers file d x is = subst (λ names. NameHasNumber names x ↔ IsStateOfSome file x) (sym is.states) (state_of_some file x, number_of_state file x)

pub actions_have_numbers : ActionsHaveNumbers
actions_have_numbers file d x is = subst (λ names. NameHasNumber names x ↔ IsActionOfSome file x) (sym is.actions) (action_of_some file x, number_of_action file x)

-- ---- the last state

fold_last : (xs seen : List (List ℕ)) (y : List ℕ) → fold distinct_more seen (xs ++ y ∷ []) ≡ distinct_more (fold distinct_more seen xs) y
fold_last [] seen y = refl
fold_last (x ∷ xs) seen y = fold_last xs (distinct_more seen x) y

got_last : (xs : List (List ℕ)) (y : List ℕ) → slice_get (xs ++ y ∷ []) (length xs) ≡ Some y
got_last [] y = refl
got_last (x ∷ xs) y = got_last xs y

module _ (file : List ItemData) (d : Domain) (is : IsDomainOf file d) (only_added : OnlyAddsDead file) where
  none_named : list_any (same_name dead_name) (distinct (declared file)) ≡ false
  none_named = none_from (same_name dead_name) (distinct (declared file)) (λ x at.
      let m = distinct_from (declared file) x at in
      let s = declared_in file m.0 m.1 in
      not_named x dead_name (λ e. only_added.none_declares s.0 s.1 s.2 (s.3 ∙ sym (same_names x m.0 m.2) ∙ e)))

  states_are : d.states ≡ distinct (declared file) ++ dead_name ∷ []
  states_are =
      is.states
      ∙ ap (λ b. distinct (declared file ++ (if b then dead_name ∷ [] else []))) (any_at adds_dead (classes_in file) only_added.to (class_there file only_added.to only_added.class_in) only_added.adds)
      ∙ fold_last (declared file) [] dead_name
      ∙ ap (λ b. if b then distinct (declared file) else distinct (declared file) ++ dead_name ∷ []) none_named

  abbrev last : ℕ
  last = length (distinct (declared file))

  dead_is : place d.states dead_name ≡ Some last
  dead_is = place_is d.states last dead_name (subst AreDistinct (sym is.states) (distinct_apart (declared file ++ added_names (classes_in file)))) (ap (λ names. slice_get names last) states_are ∙ got_last (distinct (declared file)) dead_name)

  long : suc last ≡ length d.states
  long = omega (arith, ap length states_are, length-append (distinct (declared file)) (dead_name ∷ []))

  before_it : (c : ClassData) (s : StateData) → HasState file c s → IsSomeAnd (place d.states s.name) (λ k. k < last)
  before_it c s at = by (place d.states s.name) refl (subst (λ names. NameHasNumber names s.name) (sym is.states) (state_number file c at.class_in s at.state_in))
    where
      by : (o : Option ℕ) → place d.states s.name ≡ o → is_some o ≡ true → IsSomeAnd o (λ k. k < last)
      by None e some = cc
      by (Some k) e some =
          let there = stands_at d.states k s.name e in
          let lt : k < length d.states = slice_get_within d.states k s.name there in
          let differ : k ≢ last = λ same. only_added.none_declares c s at (one_to_one d.states s.name dead_name k e (dead_is ∙ ap Some (sym same))) in
          omega (lt, differ, long, arith)

pub added_dead_is_last : AddedDeadIsLast
added_dead_is_last file d is only_added = record { number = last file d is only_added; is_last = long file d is only_added; of_dead = dead_is file d is only_added; before = before_it file d is only_added }
