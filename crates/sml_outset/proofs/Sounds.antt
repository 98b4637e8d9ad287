-- A sound domain whose rows stand as an outset says is sound, begins as the outset says, and is otherwise as before.
use Rattle.std.proofs.Common.{◌≡◌, ◌<◌, ◌≤◌, ℕ, false, true, List, [], ◌∷◌, Option, Some, None, All, IfSome, IsSomeAnd, length, map, slice_get, slice_index_or, get_or, option_map, refl, sym, ap, ◌∙◌, subst, arith, ⊎_elim}
use Rattle.std.specs.List.{Contains}
use Rattle.std.specs.Option.{option_and_then, option_map_or}
use Rattle.std.proofs.lemmas.Bool.{cases_lt}
use Rattle.std.proofs.lemmas.Option.{slice_get_within, slice_get-get_or, slice_get_past, get_or_from_slice_get}
use Rattle.std.proofs.lemmas.List.{get_or_default}
use Rattle.std.proofs.lemmas.List.Elements.{All-contains_itself, All-contains}
use Rattle.sml_domain.specs.Names.{AreDistinct}
use Rattle.sml_domain.specs.Domain.{Domain, Object, Class, Group, State, Action, Signature, Param}
use Rattle.sml_domain.specs.Lookups.{name_of_object, class_number, class_at, associated_at, initial_state, dead_state, is_state_of, has_state, block_at, params_at, params_of_class, class_params_at, members_at, members_of_group, may_at, may_of_group, tree_of_block}
use Rattle.sml_domain.specs.Fits.{param_kind}
use Rattle.sml_domain.specs.Sound.{ClassParamFits, IsSound, AreInRange, HaveOneNumber, ProgramsAskOthers, ClassFits, ObjectFits, GroupFits, MembersDiffer, IsObject, IsDeclared, EachOnce, StateFits, ActionFits, SignatureFits, FitsClass, TakesParams, name_of_param, name_of_class, name_of_group}
use Rattle.sml_domain.proofs.Domains.{object_has_class}
use Rattle.sml_domain.proofs.Setted.{spares_less, may_there, may_once}
use Rattle.sml_domain.specs.OtherRows.{with_rows}
use Rattle.sml_outset.specs.Outset.{Stand, Outset}
use Rattle.sml_outset.specs.Suits.{Suits, ParamsSuit, StandSuits, MembersSuit}
use Rattle.sml_outset.specs.Standing.{class_standing, IsAsBefore, BeginsFrom, StandsAs}
use Rattle.sml_outset.specs.Rows.{RowsAre, RowsStand, IsOwnObject, IsOwnClass, IsPutGroup, object_name_at}
use Rattle.sml_outset.specs.Laws.{StandingIsSound, StandingStands, SameObjectNames}
use Rattle.sml_outset.proofs.Made.{map_same, row_is, no_row, is_there}
use Rattle.sml_outset.proofs.Alike.{IsLike, AreAlike, same_signature, alike_block, alike_params, alike_has, alike_associated, alike_dead}
use Rattle.sml_outset.proofs.Fitting.{IsRoom, some_more, program_fits}

-- a stand to be read past the end
no_stand : Stand
no_stand = record { state = 0; params = [] }

-- the name of an object that is there
name_there : (d : Domain) (o : ℕ) (r : Object) → o < length d.objects → object_name_at d o ≡ name_of_object (get_or d.objects o r)
name_there d o r lt = ap (λ m. option_map_or name_of_object m []) (slice_get-get_or d.objects o r lt)

-- ---- what suits

-- all parameters have values of their kinds, and the names and kinds of the others
names_suit : (params given : List Param) → ParamsSuit params given → map name_of_param given ≡ map name_of_param params
names_suit params given h =
    map_same name_of_param name_of_param given params h.count
    (λ k x p lt. (h.each k p x (omega (arith, lt, h.count))).name)

kinds_suit : (params given : List Param) → ParamsSuit params given → map param_kind given ≡ map param_kind params
kinds_suit params given h =
    map_same param_kind param_kind given params h.count (λ k x p lt. (h.each k p x (omega (arith, lt, h.count))).kind)

values_suit : (params given : List Param) → ParamsSuit params given → All ClassParamFits given
values_suit params given h = λ k x lt. (h.each k x x (omega (arith, lt, h.count))).value

module _ (d : Domain) (x : Outset) (suits : Suits d x) where
  stand_suits : (o : ℕ) (s : Stand) → o < length d.objects → StandSuits d o (get_or x.stands o s)
  stand_suits o s lt = suits.stand o s (omega (arith, lt, suits.objects))

  members_suit : (set : ℕ) → set < length d.groups → MembersSuit d set (get_or x.members set [])
  members_suit set lt = suits.have set [] (omega (arith, lt, suits.sets))

module _ (d : Domain) (x : Outset) (os : List Object) (cs : List Class) (gs : List Group) (rows : RowsStand d x os cs gs) where
  pub object_names : map name_of_object os ≡ map name_of_object d.objects
  object_names =
      map_same name_of_object name_of_object os d.objects rows.objects_are.count
      (λ k r s lt.
      let less : k < length d.objects = omega (arith, lt, rows.objects_are.count) in
      ap name_of_object (rows.objects_are.each k r less) ∙ name_there d k s less)

  -- the class of an object is the row of its number
  class_there : (o : ℕ) → o < length d.objects → class_at (with_rows d os cs gs) o ≡ slice_get cs o
  class_there o lt =
      let row : Object = record { name = object_name_at d o; class = o } in
      ap (λ m. option_and_then (slice_get cs) (option_map class_number m))
      (row_is (IsOwnObject d) (length d.objects) os o row rows.objects_are lt ∙ ap Some (rows.objects_are.each o row lt))

  class_none : (o : ℕ) → length d.objects ≤ o → class_at (with_rows d os cs gs) o ≡ None
  class_none o le = ap (λ m. option_and_then (slice_get cs) (option_map class_number m)) (no_row (IsOwnObject d) (length d.objects) os o rows.objects_are le)

  was_none : (o : ℕ) → length d.objects ≤ o → class_at d o ≡ None
  was_none o le = ap (λ m. option_and_then (slice_get d.classes) (option_map class_number m)) (slice_get_past d.objects o le)

  -- the class in which an object stands
  class_is : (o : ℕ) (c : Class) (s : Stand) → o < length d.objects → class_at d o ≡ Some c
      → class_at (with_rows d os cs gs) o ≡ Some (class_standing (object_name_at d o) c (get_or x.stands o s))
  class_is o c s lt is =
      class_there o lt ∙ row_is (IsOwnClass d x) (length d.objects) cs o c rows.classes_are lt ∙ ap Some (rows.classes_are.each o c lt c s is)

  -- the members of a set, and what it may have
  group_is : (set : ℕ) (g : Group) → set < length d.groups → slice_get d.groups set ≡ Some g
      → slice_get gs set ≡ Some (record { name = g.name; members = get_or x.members set []; may = g.may })
  group_is set g lt is = row_is (IsPutGroup d x) (length d.groups) gs set g rows.groups_are lt ∙ ap Some (rows.groups_are.each set g lt g is)

  same_may : (set : ℕ) → may_at (with_rows d os cs gs) set ≡ may_at d set
  same_may set = ⊎_elim there past (cases_lt set (length d.groups))
    where
      there : set < length d.groups → may_at (with_rows d os cs gs) set ≡ may_at d set
      there lt = go (slice_get d.groups set) refl
        where
          go : (m : Option Group) → slice_get d.groups set ≡ m → may_at (with_rows d os cs gs) set ≡ option_map_or may_of_group m []
          go None e = absurd (is_there d.groups set lt e)
          go (Some g) e = ap (λ m. option_map_or may_of_group m []) (group_is set g lt e)

      past : length d.groups ≤ set → may_at (with_rows d os cs gs) set ≡ may_at d set
      past le =
          ap (λ m. option_map_or may_of_group m []) (no_row (IsPutGroup d x) (length d.groups) gs set rows.groups_are le)
          ∙ sym (ap (λ m. option_map_or may_of_group m []) (slice_get_past d.groups set le))

  module _ (sound : IsSound d) (suits : Suits d x) where
    -- the class that an object had is there
    class_was : (o : ℕ) → o < length d.objects → (c : Class) × (class_at d o ≡ Some c) × ClassFits d c
    class_was o lt = go (class_at d o) refl (object_has_class d o sound lt)
      where
        go : (m : Option Class) → class_at d o ≡ m → IsSomeAnd m (ClassFits d) → (c : Class) × (class_at d o ≡ Some c) × ClassFits d c
        go None e h = absurd h
        go (Some c) e h = (c, e, h)

    like : (o : ℕ) (c : Class) (s : Stand) → o < length d.objects → class_at d o ≡ Some c → IsLike c (class_standing (object_name_at d o) c (get_or x.stands o s))
    like o c s lt is = record {
      associated = refl;
      states = refl;
      dead = refl;
      signatures = refl;
      kinds = kinds_suit (class_params_at d o) (get_or x.stands o s).params (stand_suits d x suits o s lt).params ∙ ap (λ m. map param_kind (option_map_or params_of_class m [])) is;
    }

    alike : (o : ℕ) → AreAlike (class_at d o) (class_at (with_rows d os cs gs) o)
    alike o = ⊎_elim there past (cases_lt o (length d.objects))
      where
        there : o < length d.objects → AreAlike (class_at d o) (class_at (with_rows d os cs gs) o)
        there lt =
            let was = class_was o lt in
            subst (λ m. AreAlike m (class_at (with_rows d os cs gs) o)) (sym was.1)
            (subst (AreAlike (Some was.0)) (sym (class_is o was.0 no_stand lt was.1)) (like o was.0 no_stand lt was.1))

        past : length d.objects ≤ o → AreAlike (class_at d o) (class_at (with_rows d os cs gs) o)
        past le =
            subst (λ m. AreAlike m (class_at (with_rows d os cs gs) o)) (sym (was_none o le))
            (subst (AreAlike None) (sym (class_none o le)) tt)

    room : IsRoom d (with_rows d os cs gs)
    room = record {
      objects = rows.objects_are.count;
      groups = rows.groups_are.count;
      states = refl;
      actions = refl;
      blocks = refl;
      takes = λ o a. alike_params (class_at d o) (class_at (with_rows d os cs gs) o) a (alike o);
      may = same_may;
    }

    block_same : (o s a : ℕ) → block_at (with_rows d os cs gs) o s a ≡ block_at d o s a
    block_same o s a = alike_block (class_at d o) (class_at (with_rows d os cs gs) o) s a (alike o)

    -- ---- what holds of rows

    action_fits : (c k : Class) (h : IsLike c k) (a : Action) → ActionFits d c a → ActionFits (with_rows d os cs gs) k a
    action_fits c k h a fits = record {
      number = fits.number;
      block = fits.block;
      program = subst (λ m. IsSomeAnd m (TakesParams (with_rows d os cs gs) k (tree_of_block d a.block))) (sym (same_signature c k a.number h))
          (some_more (TakesParams d c (tree_of_block d a.block)) (TakesParams (with_rows d os cs gs) k (tree_of_block d a.block)) _
          (λ sig. program_fits d (with_rows d os cs gs) room c k h sig.params (tree_of_block d a.block)) fits.program);
    }

    state_fits : (c k : Class) (h : IsLike c k) (s : State) → StateFits d c s → StateFits (with_rows d os cs gs) k s
    state_fits c k h s fits = record {
      number = fits.number;
      actions = λ i a lt. action_fits c k h _ (fits.actions i a lt);
    }

    signature_fits : (s : Signature) → SignatureFits d s → SignatureFits (with_rows d os cs gs) s
    signature_fits s fits = record { action = fits.action; params = fits.params; apart = fits.apart }

    -- the class of an object, in which it begins as the outset says
    class_fits : (o : ℕ) (c : Class) (s : Stand) → o < length d.objects → class_at d o ≡ Some c → ClassFits d c
        → ClassFits (with_rows d os cs gs) (class_standing (object_name_at d o) c (get_or x.stands o s))
    class_fits o c s lt is fits =
        let suit = stand_suits d x suits o s lt in
        let given = (get_or x.stands o s).params in
        let own = class_params_at d o in
        let h = like o c s lt is in
        let k = class_standing (object_name_at d o) c (get_or x.stands o s) in
        record {
          params = values_suit own given suit.params;
          apart = subst AreDistinct
              (sym (names_suit own given suit.params ∙ ap (λ m. map name_of_param (option_map_or params_of_class m [])) is)) fits.apart;
          states = λ i y less. state_fits c k h _ (fits.states i y less);
          initial = sym (ap (λ m. option_map_or (has_state (get_or x.stands o s).state) m false) is) ∙ suit.state;
          dead = fits.dead;
          signatures = λ i y less. signature_fits _ (fits.signatures i y less);
          declared = fits.declared;
        }

    classes_fit : All (ClassFits (with_rows d os cs gs)) cs
    classes_fit = λ o c lt.
        let less : o < length d.objects = omega (arith, lt, rows.classes_are.count) in
        let was = class_was o less in
        subst (ClassFits (with_rows d os cs gs)) (sym (rows.classes_are.each o c less was.0 no_stand was.1))
        (class_fits o was.0 no_stand less was.1 was.2)

    objects_fit : All (ObjectFits (with_rows d os cs gs)) os
    objects_fit = λ o r lt.
        let less : o < length d.objects = omega (arith, lt, rows.objects_are.count) in
        let there : o < length cs = omega (arith, less, rows.classes_are.count) in
        subst (ObjectFits (with_rows d os cs gs)) (sym (rows.objects_are.each o r less)) there

    -- a set that is there was there
    group_was : (set : ℕ) → set < length d.groups → (g : Group) × (slice_get d.groups set ≡ Some g)
    group_was set lt = go (slice_get d.groups set) refl
      where
        go : (m : Option Group) → slice_get d.groups set ≡ m → (g : Group) × (slice_get d.groups set ≡ Some g)
        go None e = absurd (is_there d.groups set lt e)
        go (Some g) e = (g, e)

    may_is : (set : ℕ) (g : Group) → slice_get d.groups set ≡ Some g → may_at d set ≡ g.may
    may_is set g e = ap (λ m. option_map_or may_of_group m []) e

    objects_there : (xs : List ℕ) → All (IsObject d) xs → All (IsObject (with_rows d os cs gs)) xs
    objects_there xs h = λ i y lt. subst (λ n. slice_index_or xs i y < n) (sym rows.objects_are.count) (h i y lt)

    groups_fit : All (GroupFits (with_rows d os cs gs)) gs
    groups_fit = λ set r lt.
        let less : set < length d.groups = omega (arith, lt, rows.groups_are.count) in
        let was = group_was set less in
        let g = was.0 in
        let have = members_suit d x suits set less in
        let some : All (Contains g.may) (get_or x.members set []) = subst (λ xs. All (Contains xs) (get_or x.members set [])) (may_is set g was.1) have.may in
        let may : All (IsObject d) g.may = subst (All (IsObject d)) (may_is set g was.1) (may_there d set sound) in
        subst (GroupFits (with_rows d os cs gs)) (sym (rows.groups_are.each set r less g was.1))
        (record {
          members = objects_there (get_or x.members set []) (λ i y at. All-contains (IsObject d) g.may _ may (some i y at));
          may = objects_there g.may may;
          some = some;
        })

    members_differ : All MembersDiffer gs
    members_differ = λ set r lt.
        let less : set < length d.groups = omega (arith, lt, rows.groups_are.count) in
        let was = group_was set less in
        subst MembersDiffer (sym (rows.groups_are.each set r less was.0 was.1))
        (record {
          members = (members_suit d x suits set less).once;
          may = subst EachOnce (may_is set was.0 was.1) (may_once d set sound);
        })

    class_names : map name_of_class cs ≡ map name_of_object d.objects
    class_names =
        map_same name_of_class name_of_object cs d.objects rows.classes_are.count
        (λ o c r lt.
        let less : o < length d.objects = omega (arith, lt, rows.classes_are.count) in
        let was = class_was o less in
        ap name_of_class (rows.classes_are.each o c less was.0 no_stand was.1) ∙ name_there d o r less)

    group_names : map name_of_group gs ≡ map name_of_group d.groups
    group_names =
        map_same name_of_group name_of_group gs d.groups rows.groups_are.count
        (λ set r s lt.
        let less : set < length d.groups = omega (arith, lt, rows.groups_are.count) in
        let was = group_was set less in
        ap name_of_group (rows.groups_are.each set r less was.0 was.1)
        ∙ sym (ap name_of_group (get_or_from_slice_get d.groups set was.0 s was.1)))

    others : ProgramsAskOthers (with_rows d os cs gs)
    others o s a b is =
        spares_less (may_at (with_rows d os cs gs)) (may_at d) o (tree_of_block d b)
        (λ set. subst (λ xs. All (Contains (may_at d set)) xs) (sym (same_may set)) (All-contains_itself (may_at d set)))
        (sound.others o s a b (sym (block_same o s a) ∙ is))

    pub is_sound : IsSound (with_rows d os cs gs)
    is_sound = record {
      range = record { objects = objects_fit; classes = classes_fit; groups = groups_fit; blocks = sound.range.blocks };
      names = record {
        objects = subst AreDistinct (sym object_names) sound.names.objects;
        classes = subst AreDistinct (sym class_names) sound.names.objects;
        groups = subst AreDistinct (sym group_names) sound.names.groups;
        states = sound.names.states;
        actions = sound.names.actions;
      };
      members = members_differ;
      others = others;
    }

    pub as_before : IsAsBefore d (with_rows d os cs gs)
    as_before = record {
      objects = object_names;
      groups = group_names;
      states = refl;
      actions = refl;
      blocks = refl;
      associated = λ o. alike_associated (class_at d o) (class_at (with_rows d os cs gs) o) (alike o);
      dead = λ o. alike_dead (class_at d o) (class_at (with_rows d os cs gs) o) (alike o);
      has = λ o s. alike_has (class_at d o) (class_at (with_rows d os cs gs) o) s (alike o);
      declares = block_same;
      takes = λ o a. alike_params (class_at d o) (class_at (with_rows d os cs gs) o) a (alike o);
      may = same_may;
    }

    pub begins_as : BeginsFrom x (with_rows d os cs gs)
    begins_as = record {
      initial = λ o s lt.
          let less : o < length d.objects = omega (arith, lt, rows.objects_are.count) in
          let was = class_was o less in
          ap (option_map initial_state) (class_is o was.0 s less was.1);
      params = λ o s lt.
          let less : o < length d.objects = omega (arith, lt, rows.objects_are.count) in
          let was = class_was o less in
          ap (λ m. option_map_or params_of_class m []) (class_is o was.0 s less was.1);
      members = λ set lt.
          let less : set < length d.groups = omega (arith, lt, rows.groups_are.count) in
          let was = group_was set less in
          ap (λ m. option_map_or members_of_group m []) (group_is set was.0 less was.1);
    }

pub standing_is_sound : StandingIsSound
standing_is_sound d x os cs gs sound suits rows = is_sound d x os cs gs rows sound suits

pub standing_stands : StandingStands
standing_stands d x os cs gs sound suits rows = record { before = as_before d x os cs gs rows sound suits; begins = begins_as d x os cs gs rows sound suits }

pub same_object_names : SameObjectNames
same_object_names d x os cs gs rows = object_names d x os cs gs rows
