-- In a well-formed file all names have numbers.
use Rattle.std.proofs.Common.{◌≡◌, ◌∙◌, sym, ap, refl, subst, ℕ, Bool, true, false, ◌||◌, List, [], ◌∷◌, ◌++◌, flat_map, Option, None, Some, is_some, if◌then◌else◌}
use Rattle.std.specs.Prelude.{IfSome}
use Rattle.std.proofs.Common.{inl, inr}
use Rattle.std.specs.List.{Contains, list_any}
use Rattle.std.proofs.lemmas.List.Elements.{Contains-append_left, Contains-append_right}
use Rattle.sml_tree.specs.declared.cond.Scope.{Scope}
use Rattle.sml_tree.specs.declared.cond.Scope.TheVariants.{One, All as AllOf, Any}
use Rattle.sml_tree.specs.declared.file.Kind.{Kind}
use Rattle.sml_tree.specs.Syntax.{LiteralData, ArgData, lit, param, SendData, ItemData, class, object, group, ClassData, StateData, ActionData, ActionParamData}
use Rattle.sml_check_faults.specs.Sites.{Site, asks, tests, sets, ends, changes}
use Rattle.sml_check_faults.specs.Lookup.{dead_name, adds_dead, actions, actions_of, is_class_param, is_action_param, of_set}
use Rattle.sml_check_faults.specs.Inside.{HasAction, HasSite, DeclaresClass, DeclaresObject, DeclaresSet, Declares, SpeaksOf, SendsToClass}
use Rattle.sml_check_faults.specs.ValueLaws.{CanBeIn, IsParam, ArgHasKind}
use Rattle.sml_check_faults.specs.Kinds.{IsWellFormed}
use Rattle.sml_check_faults.proofs.Rules.{keeps_rules}
use Rattle.sml_check_faults.specs.Sound.{FileIsSound}
use Rattle.sml_check_faults.proofs.Pairs.{any_at, named_same, or_true, contains_here, contains_all, not_false}
use Rattle.sml_check_build.specs.Numbers.{Names, class_list, object_list, group_list, classes_in, objects_in, groups_in, state_name, action_name, names_of_states, names_of_actions, added_names, names_of, place}
use Rattle.sml_check_build.specs.Programs.{class_place, action_param_place}
use Rattle.sml_check_build.specs.Placed.{IsWritten, NameHasNumber, ValuePlaced, PassedPlaced, TargetPlaced, AskedPlaced, RequestPlaced, DefaultWritten, ActionPlaced, StatePlaced, SignaturePlaced, StateSigned, AddedPlaced, ClassPlaced, ItemPlaced, FilePlaced}
use Rattle.sml_check_build.specs.Texts.{ArgWritten, HasTexts}
use Rattle.sml_check_build.proofs.Numbered.{number_of_one, contains_map, distinct_has, place_there, all_from}
use Rattle.sml_check_build.proofs.States.{can_be, initial_is, last_is}
use Rattle.sml_check_build.proofs.PlacedBlocks.{SitePlaced, block_placed}
use Rattle.sml_check_faults.specs.Tables.{class_name, object_name, group_name}

module _ (file : List ItemData) where
  abbrev names : Names
  names = names_of file

  pub class_there : (c : ClassData) → Contains file (class c) → Contains (classes_in file) c
  class_there c at = contains_all class_list file (class c) c at (contains_here c [])

  pub class_number : (x : List ℕ) → DeclaresClass file x → NameHasNumber names.classes x
  class_number x d = number_of_one class_name (classes_in file) d.0 x (class_there d.0 d.1) d.2

  pub object_number : (x : List ℕ) → DeclaresObject file x → NameHasNumber names.objects x
  object_number x d = number_of_one object_name (objects_in file) d.0 x (contains_all object_list file (object d.0) d.0 d.1 (contains_here d.0 [])) d.2

  pub group_number : (x : List ℕ) → DeclaresSet file x → NameHasNumber names.groups x
  group_number x d = number_of_one group_name (groups_in file) d.0 x (contains_all group_list file (group d.0) d.0 d.1 (contains_here d.0 [])) d.2

  pub state_number : (c : ClassData) → Contains file (class c) → (s : StateData) → Contains c.states s → NameHasNumber names.states s.name
  state_number c at s in_it =
      distinct_has (flat_map names_of_states (classes_in file) ++ added_names (classes_in file)) s.name
      (Contains-append_left (flat_map names_of_states (classes_in file)) (added_names (classes_in file)) s.name
      (contains_all names_of_states (classes_in file) c s.name (class_there c at) (contains_map state_name c.states s in_it)))

  pub dead_number : (c : ClassData) → Contains file (class c) → adds_dead c ≡ true → NameHasNumber names.states dead_name
  dead_number c at adds =
      let some : list_any adds_dead (classes_in file) ≡ true = any_at adds_dead (classes_in file) c (class_there c at) adds in
      distinct_has (flat_map names_of_states (classes_in file) ++ added_names (classes_in file)) dead_name
      (Contains-append_right (flat_map names_of_states (classes_in file)) (added_names (classes_in file)) dead_name
      (subst (λ b. Contains (if b then dead_name ∷ [] else []) dead_name) (sym some) (contains_here dead_name [])))

  pub named_action : (c : ClassData) → Contains file (class c) → (x : List ℕ) → Contains (names_of_actions c) x → NameHasNumber names.actions x
  named_action c at x in_it = distinct_has (flat_map names_of_actions (classes_in file)) x (contains_all names_of_actions (classes_in file) c x (class_there c at) in_it)

  pub action_number : (c : ClassData) → Contains file (class c) → (a : ActionData) → Contains (actions c) a → NameHasNumber names.actions a.name
  action_number c at a in_it = named_action c at a.name (contains_map action_name (actions c) a in_it)

  -- ---- values

  value_placed : (c : ClassData) (a : ActionData) (v : ArgData) (k : Kind) → ArgHasKind c a v k → ArgWritten v → ValuePlaced c a v
  value_placed c a (lit l) k kind written = written
  value_placed c a (param x) k kind written = by kind
    where
      by : IsParam c a x k → (is_some (class_place c x) || is_some (action_param_place a x)) ≡ true
      by (inl p) = ap (λ b. b || is_some (action_param_place a x)) (place_there (is_class_param x) c.params p.0 p.1 (named_same x p.0.name (sym p.2)))
      by (inr p) = or_true (is_some (class_place c x)) (is_some (action_param_place a x)) (place_there (is_action_param x) a.params p.0 p.1 (named_same x p.0.name (sym p.2)))

  -- ---- well-formed files

  module _ (ok : FileIsSound file) (texts : HasTexts file) where
    target_placed : (all : Bool) (x : List ℕ) → Declares file all x → TargetPlaced names all x
    target_placed false x d = object_number x d
    target_placed true x d = group_number x d

    asked_placed : (scope : Scope) (x : List ℕ) → Declares file (of_set scope) x → AskedPlaced names scope x
    asked_placed One x d = object_number x d
    asked_placed AllOf x d = group_number x d
    asked_placed Any x d = group_number x d

    -- an action that is asked of an object has a number
    asked_action : (c : ClassData) (a : ActionData) (s : SendData) → HasSite file c a (asks s) → s.all ≡ false → DeclaresObject file s.target → NameHasNumber names.actions s.action
    asked_action c a s site one o =
        let d = ok.objects_have_classes o.0 o.1 in
        let sends : SendsToClass file s d.0 = record {
          own_class = c;
          own_action = a;
          site = site;
          target = s.target;
          is_target = subst (λ b. SpeaksOf file b s.target s.target) (sym one) refl;
          target_class = record { declared = o.0; object_in = o.1; object_name = o.2; class_in = d.1; class_name = d.2 };
        } in
        let b = ok.targets_have_actions s d.0 sends in
        subst (NameHasNumber names.actions) b.2 (action_number d.0 d.1 b.0 b.1)

    no_action : (c : ClassData) (a : ActionData) (s : SendData) → HasSite file c a (asks s) → place names.actions s.action ≡ None → (all : Bool) → s.all ≡ all → Declares file all s.target → NameHasNumber names.groups s.target
    no_action c a s site none true is d = group_number s.target d
    no_action c a s site none false is d = let some : is_some (place names.actions s.action) ≡ true = asked_action c a s site is d in absurd (not_false (sym some ∙ ap is_some none))

    request_placed : (c : ClassData) (a : ActionData) (s : SendData) → HasSite file c a (asks s) → (o : Option ℕ) → place names.actions s.action ≡ o → RequestPlaced names c a s o
    request_placed c a s site None is = no_action c a s site is s.all refl (ok.targets_are_declared c a s site)
    request_placed c a s site (Some k) is = (
      target_placed s.all s.target (ok.targets_are_declared c a s site),
      all_from (PassedPlaced c a) s.args (λ q at. let kind = ok.arguments_have_kinds c a s site q at in value_placed c a q.value kind.0 kind.1 (texts.arguments c a s site q at)),
    )

    end_placed : (c : ClassData) → Contains file (class c) → (x : List ℕ) → CanBeIn c x → NameHasNumber names.states x
    end_placed c at = can_be c (NameHasNumber names.states) (state_number c at) (dead_number c at)

    site_placed : (c : ClassData) (a : ActionData) (s : Site) → HasSite file c a s → SitePlaced names c a s
    site_placed c a (asks s) site = request_placed c a s site (place names.actions s.action) refl
    site_placed c a (tests t) site = asked_placed t.scope t.name (ok.tests_are_declared c a t site)
    site_placed c a (sets x v) site =
        let p = ok.sets_fit c a x v site in
        (place_there (is_class_param x) c.params p.0 p.1 (named_same x p.0.name (sym p.2)), value_placed c a v p.0.kind p.3 (texts.given c a x v site))
    site_placed c a (ends s) site = end_placed c site.class_in s (ok.ends_are_states c a s site)
    site_placed c a (changes add m s) site = let known = ok.changes_are_declared c a add m s site in
        (object_number m known.0, group_number s known.1)

    -- ---- classes

    default_written : (c : ClassData) (a : ActionData) → HasAction file c a → (p : ActionParamData) → Contains a.params p → DefaultWritten p
    default_written c a has p at = by p.default (texts.defaults c a has p at)
      where
        by : (o : Option LiteralData) → ((l : LiteralData) → o ≡ Some l → IsWritten l) → IfSome o IsWritten
        by None each = tt
        by (Some l) each = each l refl

    action_placed : (c : ClassData) → Contains file (class c) → (a : ActionData) → Contains (actions c) a → ActionPlaced names c a
    action_placed c at a in_it = record {
      name = action_number c at a in_it;
      block = block_placed names c a a.body (λ s site_at. site_placed c a s (record { class_in = at; action_in = in_it; site_in = site_at }));
    }

    state_placed : (c : ClassData) → Contains file (class c) → (s : StateData) → Contains c.states s → StatePlaced names c s
    state_placed c at s in_it = record {
      name = state_number c at s in_it;
      actions = all_from (ActionPlaced names c) s.actions (λ a a_at. action_placed c at a (contains_all actions_of c.states s a in_it a_at));
    }

    signature_placed : (c : ClassData) → Contains file (class c) → (a : ActionData) → Contains (actions c) a → SignaturePlaced names a
    signature_placed c at a in_it = record {
      name = action_number c at a in_it;
      defaults = all_from DefaultWritten a.params (default_written c a (record { class_in = at; action_in = in_it }));
    }

    state_signed : (c : ClassData) → Contains file (class c) → (s : StateData) → Contains c.states s → StateSigned names s
    state_signed c at s in_it = all_from (SignaturePlaced names) s.actions (λ a a_at. signature_placed c at a (contains_all actions_of c.states s a in_it a_at))

    added_placed : (c : ClassData) → Contains file (class c) → (b : Bool) → adds_dead c ≡ b → AddedPlaced names b
    added_placed c at false is = tt
    added_placed c at true is = dead_number c at is

    class_placed : (c : ClassData) → Contains file (class c) → ClassPlaced names c
    class_placed c at = record {
      params = all_from (λ p. IsWritten p.value) c.params (texts.values c at);
      states = all_from (StatePlaced names c) c.states (state_placed c at);
      added = added_placed c at (adds_dead c) refl;
      initial = initial_is c (NameHasNumber names.states) (state_number c at) (dead_number c at) (ok.classes_have_states c at);
      dead = last_is c (NameHasNumber names.states) (state_number c at) (dead_number c at);
      signatures = all_from (StateSigned names) c.states (state_signed c at);
    }

    item_placed : (i : ItemData) → Contains file i → ItemPlaced names i
    item_placed (class c) at = class_placed c at
    item_placed (object o) at = class_number o.class (ok.objects_have_classes o at)
    item_placed (group g) at = all_from (NameHasNumber names.objects) g.members (λ x in_it. object_number x (ok.members_are_objects g at x in_it))

    pub file_placed : FilePlaced names file
    file_placed = all_from (ItemPlaced names) file item_placed

-- so it is where there is no fault
pub placed_of : (file : List ItemData) → IsWellFormed file → HasTexts file → FilePlaced (names_of file) file
placed_of file ok texts = file_placed file (keeps_rules file ok) texts
