-- A file that keeps the rules of classes, objects and sets has none of their faults.
use Rattle.std.proofs.Common.{◌≡◌, ◌∙◌, sym, ap, refl, ℕ, Bool, true, false, not, ◌&&◌, ◌||◌, List, [], ◌∷◌, flat_map, Option, Some, None, is_some, inl, inr, cond}
use Rattle.std.specs.Prelude.{◌≢◌}
use Rattle.std.specs.List.{Contains, list_any}
use Rattle.sml_tree.specs.Syntax.{ItemData, ClassData, ObjectData, ActionData, BlockData, done}
use Rattle.sml_check_faults.specs.declared.kind.CheckKind.TheVariants.{NoState, TwoInitial, TwoDead, UnknownClass, UnknownObject, UnknownSet, UnknownState, SelfInCondition, AssociatedBody}
use Rattle.sml_check_faults.specs.Lookup.{named, dead_name, is_dead, is_state_named, adds_dead, has_state_named, file_class_named, file_object_named, group_named, objects_meant, of_set}
use Rattle.sml_check_faults.specs.Faults.{unknown_object, unknown_set, has_state_there, object_has_state, state_of_none, states_of_none, is_of_class, own_object}
use Rattle.sml_check_faults.specs.Heads.{is_nil, has_two, is_initial, is_marked_dead, has_body}
use Rattle.sml_check_faults.specs.Kinds.{item_faults}
use Rattle.sml_check_faults.specs.Inside.{StandsBefore, HasAction, Declares, IsOfClass}
use Rattle.sml_check_faults.specs.ValueLaws.{CanBeIn}
use Rattle.sml_check_faults.specs.Sound.{FileIsSound}
use Rattle.sml_check_faults.proofs.Pairs.{split, flat_none, so_not, both_false, none_from, any_at, or_true, not_named, named_same, contains_here}
use Rattle.sml_check_faults.proofs.Named.{class_is, object_is, group_is, meant, spoken, class_of_is, object_found}
use Rattle.sml_check_faults.proofs.SameParams.{both_true}
use Rattle.sml_check_faults.proofs.Parts.{no_part}

not_passing : (b : Bool) → b ≢ true → b ≡ false
not_passing true other = absurd (other refl)
not_passing false other = refl

-- what is found is not missed
pub not_missed : {X : Type 0} (o : Option X) (x : X) → o ≡ Some x → not (is_some o) ≡ false
not_missed o x e = ap (λ r. not (is_some r)) e

-- ---- classes

filled : {X : Type 0} (xs : List X) → xs ≢ [] → is_nil xs ≡ false
filled [] other = absurd (other refl)
filled (x ∷ xs) other = refl

few : {X : Type 0} (p : X → Bool) (xs : List X) → ((x y : X) → StandsBefore x y xs → p x ≡ true → p y ≢ true) → has_two p xs ≡ false
few p [] none = refl
few {X} p (x ∷ xs) none = by (p x) refl (few p xs (λ y z b. none y z (later y z b)))
  where
    later : (y z : X) → StandsBefore y z xs → StandsBefore y z (x ∷ xs)
    later y z b = record { before = x ∷ b.before; between = b.between; after = b.after; is = ap (λ zs. x ∷ zs) b.is }

    first : (y : X) → Contains xs y → StandsBefore x y (x ∷ xs)
    first y at = let s = split xs y at in record { before = []; between = s.before; after = s.after; is = ap (λ zs. x ∷ zs) s.is }

    by : (b : Bool) → p x ≡ b → has_two p xs ≡ false → cond b (list_any p xs) (has_two p xs) ≡ false
    by true passes rest = none_from p xs (λ y at. not_passing (p y) (none x y (first y at) passes))
    by false passes rest = rest

bodiless : (b : BlockData) → b ≡ done → has_body b ≡ false
bodiless b e = ap has_body e

module _ (file : List ItemData) (sound : FileIsSound file) where
  pub no_state : flat_map (item_faults NoState file) file ≡ []
  no_state =
      no_part NoState file
      (record {
        at_class = λ c at. so_not _ c.name (filled c.states (sound.classes_have_states c at));
        at_action = λ c a at. refl;
        at_send = λ c a s at. refl;
        at_test = λ c a t at. refl;
        at_set = λ c a n v at. refl;
        at_end = λ c a n at. refl;
        at_change = λ c a add m s at. refl;
        at_object = λ o at. refl;
        at_group = λ g at. refl;
      })

  pub two_initial : flat_map (item_faults TwoInitial file) file ≡ []
  two_initial =
      no_part TwoInitial file
      (record {
        at_class = λ c at. so_not _ c.name (few is_initial c.states (sound.one_is_initial c at));
        at_action = λ c a at. refl;
        at_send = λ c a s at. refl;
        at_test = λ c a t at. refl;
        at_set = λ c a n v at. refl;
        at_end = λ c a n at. refl;
        at_change = λ c a add m s at. refl;
        at_object = λ o at. refl;
        at_group = λ g at. refl;
      })

  pub two_dead : flat_map (item_faults TwoDead file) file ≡ []
  two_dead =
      no_part TwoDead file
      (record {
        at_class = λ c at. so_not _ c.name (few is_marked_dead c.states (sound.one_is_dead c at));
        at_action = λ c a at. refl;
        at_send = λ c a s at. refl;
        at_test = λ c a t at. refl;
        at_set = λ c a n v at. refl;
        at_end = λ c a n at. refl;
        at_change = λ c a add m s at. refl;
        at_object = λ o at. refl;
        at_group = λ g at. refl;
      })

  bodies : (c : ClassData) (a : ActionData) → HasAction file c a → (c.associated && has_body a.body) ≡ false
  bodies c a at = by c.associated refl
    where
      by : (b : Bool) → c.associated ≡ b → (b && has_body a.body) ≡ false
      by true is = bodiless a.body (sound.associated_are_empty c a at is)
      by false is = refl

  pub associated_body : flat_map (item_faults AssociatedBody file) file ≡ []
  associated_body =
      no_part AssociatedBody file
      (record {
        at_class = λ c at. refl;
        at_action = λ c a at. so_not _ a.name (bodies c a at);
        at_send = λ c a s at. refl;
        at_test = λ c a t at. refl;
        at_set = λ c a n v at. refl;
        at_end = λ c a n at. refl;
        at_change = λ c a add m s at. refl;
        at_object = λ o at. refl;
        at_group = λ g at. refl;
      })

  -- ---- what is declared

  pub unknown_class : flat_map (item_faults UnknownClass file) file ≡ []
  unknown_class =
      no_part UnknownClass file
      (record {
        at_class = λ c at. refl;
        at_action = λ c a at. refl;
        at_send = λ c a s at. refl;
        at_test = λ c a t at. refl;
        at_set = λ c a n v at. refl;
        at_end = λ c a n at. refl;
        at_change = λ c a add m s at. refl;
        at_object = λ o at. let d = sound.objects_have_classes o at in so_not _ o.class (not_missed (file_class_named file o.class) d.0 (class_is file sound.different o.class d.0 d.1 d.2));
        at_group = λ g at. refl;
      })

  known_object : (set : Bool) (n : List ℕ) → Declares file set n → unknown_object file set n ≡ []
  known_object false n d = so_not _ n (not_missed (file_object_named file n) d.0 (object_is file sound.different n d.0 d.1 d.2))
  known_object true n d = refl

  known_set : (set : Bool) (n : List ℕ) → Declares file set n → unknown_set file set n ≡ []
  known_set false n d = refl
  known_set true n d = so_not _ n (not_missed (group_named file n) d.0 (group_is file sound.different n d.0 d.1 d.2))

  pub unknown_object_none : flat_map (item_faults UnknownObject file) file ≡ []
  unknown_object_none =
      no_part UnknownObject file
      (record {
        at_class = λ c at. refl;
        at_action = λ c a at. refl;
        at_send = λ c a s at. known_object s.all s.target (sound.targets_are_declared c a s at);
        at_test = λ c a t at. known_object (of_set t.scope) t.name (sound.tests_are_declared c a t at);
        at_set = λ c a n v at. refl;
        at_end = λ c a n at. refl;
        at_change = λ c a add m s at. known_object false m (sound.changes_are_declared c a add m s at).0;
        at_object = λ o at. refl;
        at_group = λ g at. flat_none (unknown_object file false) g.members (λ n member. known_object false n (sound.members_are_objects g at n member));
      })

  pub unknown_set_none : flat_map (item_faults UnknownSet file) file ≡ []
  unknown_set_none =
      no_part UnknownSet file
      (record {
        at_class = λ c at. refl;
        at_action = λ c a at. refl;
        at_send = λ c a s at. known_set s.all s.target (sound.targets_are_declared c a s at);
        at_test = λ c a t at. known_set (of_set t.scope) t.name (sound.tests_are_declared c a t at);
        at_set = λ c a n v at. refl;
        at_end = λ c a n at. refl;
        at_change = λ c a add m s at. known_set true s (sound.changes_are_declared c a add m s at).1;
        at_object = λ o at. refl;
        at_group = λ g at. refl;
      })

  -- ---- states

  has_that_state : (c : ClassData) (n : List ℕ) → CanBeIn c n → has_state_named c n ≡ true
  has_that_state c n (inl own) = ap (λ b. b || (adds_dead c && named n dead_name)) (any_at (is_state_named n) c.states own.0 own.1 (named_same n own.0.name (sym own.2)))
  has_that_state c n (inr added) =
      or_true (list_any (is_state_named n) c.states) (adds_dead c && named n dead_name)
      (both_true (adds_dead c) (named n dead_name)
      (ap (λ b. not b)
      (none_from is_dead c.states
      (λ s at. let alive = added.1 s at in both_false s.dead (named dead_name s.name) alive.0 (not_named s.name dead_name alive.1))))
      (named_same n dead_name added.0))

  some_has : (objects states : List (List ℕ)) → ((o n : List ℕ) → Contains objects o → Contains states n → list_any (object_has_state file n) objects ≡ true) → states_of_none file objects states ≡ []
  some_has [] states each = refl
  some_has (o ∷ objects) states each =
      flat_none (state_of_none file (o ∷ objects)) states (λ n at. so_not _ n (ap (λ b. not b) (each o n (contains_here o objects) at)))

  pub unknown_state : flat_map (item_faults UnknownState file) file ≡ []
  unknown_state =
      no_part UnknownState file
      (record {
        at_class = λ c at. refl;
        at_action = λ c a at. refl;
        at_send = λ c a s at. refl;
        at_test = λ c a t at.
            some_has (objects_meant file (of_set t.scope) t.name) t.states
            (λ o n asked in_states.
            let one = sound.tests_name_states c a t at o (spoken file (of_set t.scope) t.name o asked) n in_states in
            any_at (object_has_state file n) (objects_meant file (of_set t.scope) t.name) one.one (meant file sound.different (of_set t.scope) t.name one.one one.is_spoken_of)
            (ap (has_state_there n) (class_of_is file sound.different one.one one.of one.is_of_class) ∙ has_that_state one.of n one.can_be_in));
        at_set = λ c a n v at. refl;
        at_end = λ c a n at. so_not _ n (ap (λ b. not b) (has_that_state c n (sound.ends_are_states c a n at)));
        at_change = λ c a add m s at. refl;
        at_object = λ o at. refl;
        at_group = λ g at. refl;
      })

  -- ---- conditions

  other_object : (c : ClassData) (o : List ℕ) → ((d : ClassData) → IsOfClass file o d → d.name ≢ c.name) → is_of_class c (file_object_named file o) ≡ false
  other_object c o others = by (file_object_named file o) refl
    where
      by : (r : Option ObjectData) → file_object_named file o ≡ r → is_of_class c r ≡ false
      by None is = refl
      by (Some p) is =
          let at = object_found file o p is in
          let d = sound.objects_have_classes p at.0 in
          not_named p.class c.name (λ same. others d.0 (record { declared = p; object_in = at.0; object_name = at.1; class_in = d.1; class_name = d.2 }) (d.2 ∙ same))

  pub self_in_condition : flat_map (item_faults SelfInCondition file) file ≡ []
  self_in_condition =
      no_part SelfInCondition file
      (record {
        at_class = λ c at. refl;
        at_action = λ c a at. refl;
        at_send = λ c a s at. refl;
        at_test = λ c a t at.
            flat_none (own_object file c) (objects_meant file (of_set t.scope) t.name)
            (λ o asked. so_not _ o (other_object c o (sound.tests_ask_others c a t at o (spoken file (of_set t.scope) t.name o asked))));
        at_set = λ c a n v at. refl;
        at_end = λ c a n at. refl;
        at_change = λ c a add m s at. refl;
        at_object = λ o at. refl;
        at_group = λ g at. refl;
      })
