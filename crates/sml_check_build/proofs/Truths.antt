-- A condition with numbers is true exactly if that of the file is.
use Rattle.std.proofs.Common.{◌≡◌, ◌∙◌, sym, ap, refl, ℕ, ◌<◌, Bool, true, false, ◌||◌, ◌&&◌, not, cond, List, [], ◌∷◌, ◌++◌, length, map, flat_map, Option, None, Some, is_some, get_or, eq-eqb}
use Rattle.std.specs.Prelude.{slice_get, nat_eq, option_to_list, find, option_map, if◌then◌else◌}
use Rattle.std.specs.List.{Contains, list_any, list_all, position}
use Rattle.std.specs.Option.{option_and_then, option_map_or}
use Rattle.std.proofs.lemmas.Bool.{eqb-true}
use Rattle.std.proofs.lemmas.List.Quantifiers.{position-Some}
use Rattle.std.proofs.lemmas.List.Folds.{list_all-map, list_any-append}
use Rattle.std.proofs.lemmas.List.Elements.{Contains-append_left, Contains-append_right}
use Rattle.std.proofs.lemmas.Option.{same_Some, slice_get-get_or}
use Rattle.sml_tree.specs.declared.cond.Scope.{Scope}
use Rattle.sml_tree.specs.declared.cond.Scope.TheVariants.{One, All, Any}
use Rattle.sml_tree.specs.Syntax.{CondData, both, either, neither, test, ItemData, class, object, group, GroupData, ClassData, ActionData}
use Rattle.sml_check_faults.specs.Lookup.{among, named, group_named, members_of, of_set}
use Rattle.sml_check_faults.specs.Sites.{tests, cond_sites}
use Rattle.sml_check_faults.specs.Inside.{Declares}
use Rattle.sml_check_faults.specs.Laws.{MembersAreObjects}
use Rattle.sml_check_faults.specs.Sound.{FileIsSound}
use Rattle.sml_check_faults.proofs.Rules.{keeps_rules}
use Rattle.sml_check_faults.proofs.Pairs.{named_same, not_named, same_names, found_any, contains_here, contains_next}
use Rattle.sml_check_faults.proofs.Named.{found, Found}
use Rattle.sml_domain.specs.Domain.{Domain}
use Rattle.sml_domain.specs.Names.{same_name, AreDistinct}
use Rattle.sml_domain.specs.Lookups as says
use Rattle.sml_domain.specs.Truth as numbered
use Rattle.sml_check_build.specs.Numbers.{Names, names_of, objects_in, groups_in, names_of_states, added_names, classes_in, place, place_or, number}
use Rattle.sml_check_build.specs.Placed.{NameHasNumber, AskedPlaced, CondPlaced}
use Rattle.sml_check_build.specs.Programs.{asked_numbered, number_list, state_numbers, formula_numbered}
use Rattle.sml_check_build.specs.Rows.{object_row, group_row}
use Rattle.sml_check_build.specs.FileDomain.{IsDomainOf}
use Rattle.sml_check_build.specs.Truth.{is_among_names, is_one_of_names, members_named, asks_names, holds_in, AreStateNames, by_names, IsCondOf}
use Rattle.sml_check_build.specs.Laws.{TruthIsKept, ConditionsArePlaced}
use Rattle.sml_check_build.proofs.Alike.{position_map, got_map}
use Rattle.sml_check_build.proofs.Numbered.{placed_any}
use Rattle.sml_check_build.proofs.Apart.{distinct_apart}
use Rattle.sml_check_build.proofs.Places.{place_of_found, PlacedAt}
use Rattle.sml_check_build.proofs.ObjectRows.{at_place}
use Rattle.sml_check_build.proofs.PlacedFiles.{object_number, group_number}
use Rattle.sml_check_build.proofs.Ranges.{group_in}
use Rattle.sml_check_build.proofs.NumberLaws.{place_is, stands_at}
use Rattle.sml_check_faults.specs.Tables.{object_name, group_name}

-- ---- tests of lists

same_truth : (a b : Bool) → (a ≡ true → b ≡ true) → (b ≡ true → a ≡ true) → a ≡ b
same_truth true b h g = sym (h refl)
same_truth false true h g = g refl
same_truth false false h g = refl

all_same : {X : Type 0} (p q : X → Bool) (xs : List X) → ((x : X) → Contains xs x → p x ≡ q x) → list_all p xs ≡ list_all q xs
all_same p q [] each = refl
all_same p q (x ∷ xs) each = let here = each x (contains_here x xs) in let rest = all_same p q xs (λ y at. each y (contains_next x xs y at)) in ap (λ b. b && list_all p xs) here ∙ ap (λ b. q x && b) rest

any_same : {X : Type 0} (p q : X → Bool) (xs : List X) → ((x : X) → Contains xs x → p x ≡ q x) → list_any p xs ≡ list_any q xs
any_same p q [] each = refl
any_same p q (x ∷ xs) each = let here = each x (contains_here x xs) in let rest = any_same p q xs (λ y at. each y (contains_next x xs y at)) in ap (λ b. b || list_any p xs) here ∙ ap (λ b. q x || b) rest

any_map : {X Y : Type 0} (p : Y → Bool) (f : X → Y) (xs : List X) → list_any p (map f xs) ≡ list_any (λ x. p (f x)) xs
any_map p f [] = refl
any_map p f (x ∷ xs) = ap (λ b. p (f x) || b) (any_map p f xs)

-- ---- states

or_none : (b : Bool) → (b || false) ≡ b
or_none true = refl
or_none false = refl

module _ (names : List (List ℕ)) (apart : AreDistinct names) (k : ℕ) (s : List ℕ) (there : slice_get names k ≡ Some s) where
  -- the number is among that of a name exactly if the name is the one with the number
  one_number : (x : List ℕ) (o : Option ℕ) → place names x ≡ o → list_any (nat_eq k) (option_to_list o) ≡ named s x
  one_number x None is = sym (not_named x s (λ e. absurd (cc (sym is ∙ ap (place names) e ∙ place_is names k s apart there))))
  one_number x (Some j) is =
      or_none (nat_eq k j)
      ∙ same_truth (nat_eq k j) (named s x)
      (λ e. named_same s x (same_Some s x (sym there ∙ ap (slice_get names) (eqb-true k j e) ∙ stands_at names j x is)))
      (λ e. eq-eqb k j (same_Some k j (sym (place_is names k s apart there) ∙ ap (place names) (same_names s x e) ∙ is)))

  numbers_among : (states : List (List ℕ)) → list_any (nat_eq k) (flat_map (number_list names) states) ≡ among states s
  numbers_among [] = refl
  numbers_among (x ∷ states) =
      list_any-append (nat_eq k) (number_list names x) (flat_map (number_list names) states)
      ∙ ap (λ b. b || list_any (nat_eq k) (flat_map (number_list names) states)) (one_number x (place names x) refl)
      ∙ ap (λ b. named s x || b) (numbers_among states)

-- ---- sets

set_found : (file : List ItemData) (x : List ℕ) → group_named file x ≡ find (λ (g : GroupData). named x g.name) (groups_in file)
set_found [] x = refl
set_found (class c ∷ items) x = set_found items x
set_found (object o ∷ items) x = set_found items x
set_found (group g ∷ items) x = ap (cond (named x g.name) (Some g)) (set_found items x)

-- a set of a domain and of its file
record SetIs (file : List ItemData) (d : Domain) (x : List ℕ) : Type 0 where
  pub set : GroupData
  pub in_it : Contains file (group set)
  pub of_domain : says.members_at d (number (names_of file).groups x) ≡ map (number (names_of file).objects) set.members
  pub of_file : members_named file x ≡ set.members

module _ (file : List ItemData) (d : Domain) (is : IsDomainOf file d) where
  abbrev n : Names
  n = names_of file

  set_is : (x : List ℕ) → NameHasNumber n.groups x → SetIs file d x
  set_is x has =
      let test : GroupData → Bool = λ g. named x g.name in
      let gs = groups_in file in
      let placed : place n.groups x ≡ position test gs = position_map group_name (same_name x) gs in
      let f : Found test gs = found test gs (found_any test gs ∙ sym (placed_any test gs) ∙ sym (ap is_some placed) ∙ has) in
      let at : PlacedAt test gs f.item = place_of_found test gs f.item f.is in
      let row : slice_get d.groups (number n.groups x) ≡ Some (group_row file n f.item) =
      ap (λ rows. slice_get rows (number n.groups x)) is.groups ∙ got_map (group_row file n) gs (number n.groups x)
      ∙ ap (option_map (group_row file n)) (ap (λ o. slice_get gs (place_or o)) (placed ∙ at.is_first) ∙ at.stands) in
      record {
        set = f.item;
        in_it = group_in file f.item f.at;
        of_domain = ap (λ o. option_map_or says.members_of_group o []) row;
        of_file = ap members_of (set_found file x ∙ f.is);
      }

  object_is : (x : List ℕ) → NameHasNumber n.objects x → says.object_named d x ≡ Some (number n.objects x)
  object_is x has =
      ap (position (says.names_object x)) is.objects ∙ position_map (object_row n) (says.names_object x) (objects_in file)
      ∙ sym (position_map object_name (same_name x) (objects_in file)) ∙ at_place (place n.objects x) has

  -- ---- tests

  module _ (declared : MembersAreObjects file) (read : ℕ → Option ℕ) (range : AreStateNames d read) where
    among_same : (states : List (List ℕ)) (o : Option ℕ) → ((s : ℕ) → o ≡ Some s → s < length d.states) → numbered.is_among (state_numbers n states) o ≡ is_among_names states (option_and_then (slice_get d.states) o)
    among_same states None within = refl
    among_same states (Some s) within =
        let there = slice_get-get_or d.states s [] (within s refl) in
        numbers_among n.states (distinct_apart (flat_map names_of_states (classes_in file) ++ added_names (classes_in file))) s (get_or d.states s []) (ap (λ names. slice_get names s) (sym is.states) ∙ there) states
        ∙ sym (ap (is_among_names states) there)

    one_same : (negated : Bool) (states : List (List ℕ)) (x : List ℕ) → NameHasNumber n.objects x → numbered.is_one negated (state_numbers n states) (read (number n.objects x)) ≡ is_one_of_names negated states (by_names d read x)
    one_same negated states x has =
        let k = number n.objects x in
        let at = object_is x has in
        let lt : k < length d.objects = (position-Some (says.names_object x) d.objects k (record { name = x; class = 0 }) at).0 in
        ap (λ b. if negated then not b else b)
        (among_same states (read k) (λ s. range k s lt) ∙ sym (ap (λ o. is_among_names states (option_and_then (slice_get d.states) (option_and_then read o))) at))

    asks_same : (scope : Scope) (x : List ℕ) (p : ℕ → Bool) (q : List ℕ → Bool) → AskedPlaced n scope x → ((y : List ℕ) → NameHasNumber n.objects y → p (number n.objects y) ≡ q y)
        → numbered.asks (says.members_at d) (asked_numbered n scope x) p ≡ asks_names file scope x q
    asks_same One x p q has each = each x has
    asks_same All x p q has each =
        let s = set_is x has in
        ap (list_all p) s.of_domain ∙ list_all-map p (number n.objects) s.set.members
        ∙ all_same (λ y. p (number n.objects y)) q s.set.members (λ y at. each y (object_number file y (declared s.set s.in_it y at))) ∙ sym (ap (list_all q) s.of_file)
    asks_same Any x p q has each =
        let s = set_is x has in
        ap (list_any p) s.of_domain ∙ any_map p (number n.objects) s.set.members
        ∙ any_same (λ y. p (number n.objects y)) q s.set.members (λ y at. each y (object_number file y (declared s.set s.in_it y at))) ∙ sym (ap (list_any q) s.of_file)

    abbrev numbered_truth : CondData → Bool
    numbered_truth f = numbered.holds_of (says.members_at d) read (formula_numbered n f)

    abbrev truth : CondData → Bool
    truth f = holds_in file (by_names d read) f

    kept : (f : CondData) → CondPlaced n f → numbered_truth f ≡ truth f
    kept (both f g) placed = ap (λ b. b && numbered_truth g) (kept f placed.0) ∙ ap (λ b. truth f && b) (kept g placed.1)
    kept (either f g) placed = ap (λ b. b || numbered_truth g) (kept f placed.0) ∙ ap (λ b. truth f || b) (kept g placed.1)
    kept (neither f) placed = ap not (kept f placed)
    kept (test t) placed = asks_same t.scope t.name (λ o. numbered.is_one t.negated (state_numbers n t.states) (read o)) (λ y. is_one_of_names t.negated t.states (by_names d read y)) placed (one_same t.negated t.states)

pub truth_is_kept : TruthIsKept
truth_is_kept file d f read declared is placed range = kept file d is declared read range f placed

-- ---- conditions of well-formed files

module _ (file : List ItemData) (c : ClassData) (a : ActionData) (ok : FileIsSound file) where
  asked_placed : (scope : Scope) (x : List ℕ) → Declares file (of_set scope) x → AskedPlaced (names_of file) scope x
  asked_placed One x d = object_number file x d
  asked_placed All x d = group_number file x d
  asked_placed Any x d = group_number file x d

  cond_placed : (f : CondData) → IsCondOf file c a f → CondPlaced (names_of file) f
  cond_placed (both f g) each = (cond_placed f (λ s at. each s (Contains-append_left (cond_sites f) (cond_sites g) s at)), cond_placed g (λ s at. each s (Contains-append_right (cond_sites f) (cond_sites g) s at)))
  cond_placed (either f g) each = (cond_placed f (λ s at. each s (Contains-append_left (cond_sites f) (cond_sites g) s at)), cond_placed g (λ s at. each s (Contains-append_right (cond_sites f) (cond_sites g) s at)))
  cond_placed (neither f) each = cond_placed f each
  cond_placed (test t) each = asked_placed t.scope t.name (ok.tests_are_declared c a t (each (tests t) (contains_here (tests t) [])))

pub conditions_are_placed : ConditionsArePlaced
conditions_are_placed file c a f ok of_file = let sound = keeps_rules file ok in (sound.members_are_objects, cond_placed file c a sound f of_file)
