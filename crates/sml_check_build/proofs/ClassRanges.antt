-- The numbers and parameters of a class of a file's domain.
use Rattle.std.proofs.Common.{◌≡◌, ◌∙◌, sym, ap, refl, subst, ℕ, ◌<◌, ◌==◌, Bool, true, false, cond, ◌||◌, List, [], ◌∷◌, ◌++◌, length, map, Option, None, Some, is_some, option_map, All, arith, eq-eqb, if◌then◌else◌}
use Rattle.std.specs.Prelude.{IfSome, IsSomeAnd, find}
use Rattle.std.specs.Option.{option_and_then}
use Rattle.std.proofs.lemmas.Option.{none-some, same_Some}
use Rattle.std.proofs.lemmas.Bool.{eqb-true}
use Rattle.std.specs.List.{Contains, list_any}
use Rattle.std.proofs.lemmas.Simd.{map-map}
use Rattle.std.proofs.lemmas.List.Elements.{All-map, Contains-append_left, Contains-append_right}
use Rattle.sml_tree.specs.Syntax.{LiteralData, int, str, ItemData, class, ClassData, StateData, ActionData, ClassParamData, ActionParamData}
use Rattle.sml_check_faults.specs.Lookup.{dead_name, adds_dead, actions, actions_of, file_action_named, is_action_named}
use Rattle.sml_check_faults.specs.Faults as faults
use Rattle.sml_check_faults.specs.Inside.{StandsBefore, HasAction}
use Rattle.sml_check_faults.specs.ValueLaws.{CanBeIn}
use Rattle.sml_check_faults.specs.Sound.{FileIsSound}
use Rattle.sml_check_faults.proofs.Pairs.{any_at, found_any, contains_here, contains_one, contains_split, same_names}
use Rattle.sml_check_faults.proofs.Named.{finds, found_is}
use Rattle.sml_domain.specs.Domain.{Domain, Class, State}
use Rattle.sml_domain.specs.Names.{AreDistinct, distinct}
use Rattle.sml_domain.specs.Values.{kind_of, literal_value}
use Rattle.sml_domain.specs.Lookups.{state_in, has_state, numbers_state, action_in, numbers_action, block_number, block_in}
use Rattle.sml_domain.specs.Program.{Program}
use Rattle.sml_domain.specs.Trees.{trees_of}
use Rattle.sml_domain.specs.Sound.{IsOfKind, ParamFits, ClassParamFits, SignatureFits, declares_in, IsDeclared, name_of_param}
use Rattle.sml_domain.proofs.Finds.{find_map}
use Rattle.sml_check_build.specs.Numbers.{Names, names_of, action_name, names_of_actions, number}
use Rattle.sml_check_build.specs.Rows.{ActionRow, StateRow, ClassRow, action_row, action_shown, state_row, row_of_state, class_row, class_shown, added_state, bare_state, class_param_row, action_param_row, params_where, signature_row, number_where, initial_name}
use Rattle.sml_check_build.specs.FileDomain.{IsDomainOf}
use Rattle.sml_check_build.proofs.Alike.{some_map}
use Rattle.sml_check_build.proofs.Numbered.{contains_map, distinct_from, all_from}
use Rattle.sml_check_build.proofs.Apart.{apart_map, contains_unmap}
use Rattle.sml_check_build.proofs.States.{can_be, initial_is, last_is}
use Rattle.sml_check_build.proofs.PlacedFiles.{named_action, state_number}
use Rattle.sml_check_build.proofs.ObjectRows.{one_name}
use Rattle.sml_check_build.proofs.Ranges.{number_within}

pub kinds_same : (l : LiteralData) → kind_of (literal_value l) ≡ faults.literal_kind l
kinds_same (int n) = refl
kinds_same (str s) = refl

any_map : {X Y : Type 0} (f : X → Y) (p : Y → Bool) (xs : List X) → list_any p (map f xs) ≡ list_any (λ x. p (f x)) xs
any_map f p [] = refl
any_map f p (x ∷ xs) = ap (λ b. p (f x) || b) (any_map f p xs)

-- a state of a class with the number of a row of it
has_row : (known : List Program) (x : Class) (rows : List StateRow) (r : StateRow) (k : ℕ) → map (row_of_state known) x.states ≡ rows → Contains rows r → r.number ≡ k → has_state k x ≡ true
has_row known x rows r k e at same =
    found_any (numbers_state k) x.states ∙ sym (any_map (row_of_state known) (λ s. s.number == k) x.states) ∙ ap (list_any (λ s. s.number == k)) e
    ∙ any_at (λ s. s.number == k) rows r at (eq-eqb r.number k same)

-- a state declares the action of a row of it
has_block : (known : List Program) (z : State) (rows : List ActionRow) (r : ActionRow) (k : ℕ) → map (action_shown known) z.actions ≡ rows → Contains rows r → r.number ≡ k → is_some (block_in k z) ≡ true
has_block known z rows r k e at same =
    some_map block_number (action_in k z) ∙ found_any (numbers_action k) z.actions ∙ sym (any_map (action_shown known) (λ (y : ActionRow). y.number == k) z.actions)
    ∙ ap (list_any (λ (y : ActionRow). y.number == k)) e ∙ any_at (λ (y : ActionRow). y.number == k) rows r at (eq-eqb r.number k same)

-- what is found in the first of two lists
find_first : {X : Type 0} (p : X → Bool) (xs ys : List X) (x : X) → find p xs ≡ Some x → find p (xs ++ ys) ≡ Some x
find_first p [] ys x e = absurd (none-some x e)
find_first {X} p (z ∷ xs) ys x e = by (p z) e (find_first p xs ys x)
  where
    by : (b : Bool) → cond b (Some z) (find p xs) ≡ Some x → (find p xs ≡ Some x → find p (xs ++ ys) ≡ Some x) → cond b (Some z) (find p (xs ++ ys)) ≡ Some x
    by true e next = e
    by false e next = next e

stands_in : {X : Type 0} (x y : X) (xs : List X) → StandsBefore x y xs → Contains xs x
stands_in x y xs s = contains_split xs x (record { before = s.before; after = s.between ++ y ∷ s.after; is = s.is })

pub other_number : (j k : ℕ) → (j ≡ k → ⊥) → (j == k) ≡ false
other_number j k other = by (j == k) refl
  where
    by : (b : Bool) → (j == k) ≡ b → b ≡ false
    by true e = absurd (other (eqb-true j k e))
    by false e = refl

module _ (file : List ItemData) (d : Domain) (is : IsDomainOf file d) (ok : FileIsSound file) (c : ClassData) (at : Contains file (class c)) (x : Class) (e : class_shown (trees_of d.blocks) x ≡ class_row (names_of file) c) where
  abbrev n : Names
  n = names_of file

  -- ---- parameters

  pub own_params : x.params ≡ map class_param_row c.params
  own_params = ap (λ (r : ClassRow). r.params) e

  pub params_fit : All ClassParamFits x.params
  params_fit =
      subst (All ClassParamFits) (sym own_params)
      (All-map ClassParamFits class_param_row c.params (all_from (λ p. ClassParamFits (class_param_row p)) c.params (λ p p_at. kinds_same p.value ∙ ok.class_defaults_fit c at p p_at)))

  pub params_apart : AreDistinct (map name_of_param x.params)
  params_apart =
      subst AreDistinct (sym (ap (map name_of_param) own_params ∙ map-map name_of_param class_param_row c.params))
      (apart_map (λ (p : ClassParamData). p.name) c.params (ok.different.class_params c at))

  -- ---- states

  pub own_states : map (row_of_state (trees_of d.blocks)) x.states ≡ map (state_row n c) c.states ++ added_state n c
  own_states = ap (λ (r : ClassRow). r.states) e

  abbrev IsOwn : List ℕ → Type 0
  IsOwn s = has_state (number n.states s) x ≡ true

  own_declared : (s : StateData) → Contains c.states s → IsOwn s.name
  own_declared s in_it =
      has_row (trees_of d.blocks) x (map (state_row n c) c.states ++ added_state n c) (state_row n c s) (number n.states s.name) own_states
      (Contains-append_left (map (state_row n c) c.states) (added_state n c) (state_row n c s) (contains_map (state_row n c) c.states s in_it)) refl

  own_added : adds_dead c ≡ true → IsOwn dead_name
  own_added adds =
      has_row (trees_of d.blocks) x (map (state_row n c) c.states ++ added_state n c) (bare_state n dead_name) (number n.states dead_name) own_states
      (Contains-append_right (map (state_row n c) c.states) (added_state n c) (bare_state n dead_name)
      (subst (λ b. Contains (if b then bare_state n dead_name ∷ [] else []) (bare_state n dead_name)) (sym adds) (contains_here (bare_state n dead_name) []))) refl

  pub end_is : (s : List ℕ) → CanBeIn c s → has_state (number n.states s) x ≡ true
  end_is = can_be c IsOwn own_declared own_added

  pub dead_is : has_state x.dead x ≡ true
  dead_is = subst (λ k. has_state k x ≡ true) (sym (ap (λ (r : ClassRow). r.dead) e)) (last_is c IsOwn own_declared own_added)

  pub first_is : has_state x.initial x ≡ true
  first_is =
      subst (λ k. has_state k x ≡ true) (sym (ap (λ (r : ClassRow). r.initial) e)) (by (initial_name c) (initial_is c IsOwn own_declared own_added (ok.classes_have_states c at)))
    where
      by : (o : Option (List ℕ)) → IsSomeAnd o IsOwn → has_state (number_where n.states o) x ≡ true
      by None h = absurd h
      by (Some s) h = h

  -- ---- signatures

  default_fits : (a : ActionData) → HasAction file c a → (p : ActionParamData) → Contains a.params p → ParamFits (action_param_row p)
  default_fits a has p p_at = by p.default (ok.action_defaults_fit c a has p p_at)
    where
      by : (o : Option LiteralData) → ((l : LiteralData) → o ≡ Some l → faults.literal_kind l ≡ p.kind) → IfSome (option_map literal_value o) (IsOfKind p.kind)
      by None each = tt
      by (Some l) each = kinds_same l ∙ each l refl

  signature_fits : (y : List ℕ) → Contains (distinct (names_of_actions c)) y → SignatureFits d (signature_row n c y)
  signature_fits y in_it =
      let one = distinct_from (names_of_actions c) y in_it in
      let has = named_action file c at y (subst (Contains (names_of_actions c)) (sym (same_names y one.0 one.2)) one.1) in
      record {
        action = subst (λ ns. number n.actions y < length ns) (sym is.actions) (number_within n.actions y has);
        params = all_fit (file_action_named c y) refl;
        apart = all_apart (file_action_named c y) refl;
      }
    where
      all_fit : (o : Option ActionData) → file_action_named c y ≡ o → All ParamFits (params_where o)
      all_fit None found = λ k p within. absurd (omega (within, arith))
      all_fit (Some a) found =
          All-map ParamFits action_param_row a.params
          (all_from (λ p. ParamFits (action_param_row p)) a.params (default_fits a (record { class_in = at; action_in = (found_is (is_action_named y) (actions c) a found).0 })))

      all_apart : (o : Option ActionData) → file_action_named c y ≡ o → AreDistinct (map name_of_param (params_where o))
      all_apart None found = tt
      all_apart (Some a) found =
          subst AreDistinct (sym (map-map name_of_param action_param_row a.params))
          (apart_map (λ (p : ActionParamData). p.name) a.params (ok.different.action_params c a (record { class_in = at; action_in = (found_is (is_action_named y) (actions c) a found).0 })))

  pub signatures_fit : All (SignatureFits d) x.signatures
  signatures_fit =
      subst (All (SignatureFits d)) (sym (ap (λ (r : ClassRow). r.signatures) e))
      (All-map (SignatureFits d) (signature_row n c) (distinct (names_of_actions c)) (all_from (λ y. SignatureFits d (signature_row n c y)) (distinct (names_of_actions c)) signature_fits))

  -- ---- actions

  -- a state before another has another number
  before_other : (u t : StateData) → Contains c.states t → StandsBefore u t c.states → (number n.states u.name == number n.states t.name) ≡ false
  before_other u t t_at before =
      other_number (number n.states u.name) (number n.states t.name)
      (λ same. ok.different.states c at u t before
      (one_name n.states u.name t.name (state_number file c at u (stands_in u t c.states before)) (state_number file c at t t_at) same))

  -- the state by the number of its name
  state_there : (t : StateData) → Contains c.states t → option_map (row_of_state (trees_of d.blocks)) (state_in (number n.states t.name) x) ≡ Some (state_row n c t)
  state_there t t_at =
      let k : ℕ = number n.states t.name in
      let is_it : StateRow → Bool = λ r. r.number == k in
      sym (find_map (row_of_state (trees_of d.blocks)) is_it x.states) ∙ ap (find is_it) own_states
      ∙ find_first is_it (map (state_row n c) c.states) (added_state n c) (state_row n c t)
      (find_map (state_row n c) is_it c.states
      ∙ ap (option_map (state_row n c)) (finds (λ (u : StateData). number n.states u.name == k) c.states t t_at (eq-eqb k k refl) (λ u before. before_other u t t_at before)))

  of_state : (t : StateData) (a : ActionData) → Contains t.actions a → (o : Option State) → option_map (row_of_state (trees_of d.blocks)) o ≡ Some (state_row n c t) →
      is_some (option_and_then (block_in (number n.actions a.name)) o) ≡ true
  of_state t a a_at None is_row = absurd (none-some (state_row n c t) is_row)
  of_state t a a_at (Some z) is_row =
      has_block (trees_of d.blocks) z (map (action_row n c) t.actions) (action_row n c a) (number n.actions a.name)
      (ap (λ (r : StateRow). r.actions) (same_Some (row_of_state (trees_of d.blocks) z) (state_row n c t) is_row)) (contains_map (action_row n c) t.actions a a_at) refl

  -- an action is declared in the state that has it
  in_some : (a : ActionData) → Contains (actions c) a → (s : ℕ) × (declares_in x (number n.actions a.name) s ≡ true)
  in_some a a_at =
      let t = contains_one actions_of c.states a a_at in (number n.states t.0.name, of_state t.0 a t.2 (state_in (number n.states t.0.name) x) (state_there t.0 t.1))

  is_declared : (y : List ℕ) → Contains (distinct (names_of_actions c)) y → IsDeclared x (signature_row n c y)
  is_declared y in_it =
      let one = distinct_from (names_of_actions c) y in_it in
      let a = contains_unmap action_name (actions c) one.0 one.1 in
      subst (λ z. (s : ℕ) × (declares_in x (number n.actions z) s ≡ true)) (a.2 ∙ sym (same_names y one.0 one.2)) (in_some a.0 a.1)

  pub signatures_declared : All (IsDeclared x) x.signatures
  signatures_declared =
      subst (All (IsDeclared x)) (sym (ap (λ (r : ClassRow). r.signatures) e))
      (All-map (IsDeclared x) (signature_row n c) (distinct (names_of_actions c)) (all_from (λ y. IsDeclared x (signature_row n c y)) (distinct (names_of_actions c)) is_declared))
