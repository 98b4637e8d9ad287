-- A domain of a well-formed file is as a domain should be.
use Rattle.std.proofs.Common.{◌≡◌, ◌∙◌, sym, ap, refl, subst, ℕ, zero, suc, ◌<◌, Bool, true, false, List, [], ◌∷◌, length, map, Option, None, Some, option_map, All, arith, if◌then◌else◌}
use Rattle.std.specs.Prelude.{◌⊎◌, find, slice_get, IfSome, IsSomeAnd}
use Rattle.std.specs.Option.{option_and_then}
use Rattle.std.proofs.lemmas.Option.{none-some, same_Some, slice_get_within, get_or_from_slice_get}
use Rattle.std.proofs.Common.{inl, inr}
use Rattle.std.specs.List.{Contains, AllByRecursion}
use Rattle.std.proofs.lemmas.List.Elements.{Contains-append_cases}
use Rattle.sml_tree.specs.Syntax.{ItemData, class, object, ClassData, ObjectData, ActionData}
use Rattle.sml_check_faults.specs.Kinds.{IsWellFormed}
use Rattle.sml_check_faults.specs.Lookup.{dead_name, adds_dead, actions, actions_of, file_action_named, is_action_named}
use Rattle.sml_check_faults.specs.Inside.{HasAction}
use Rattle.sml_check_faults.specs.Sound as rules
use Rattle.sml_check_faults.proofs.Rules.{keeps_rules}
use Rattle.sml_check_faults.proofs.Pairs.{contains_all, named_same, same_names}
use Rattle.sml_check_faults.proofs.Named.{found_there, Found}
use Rattle.sml_domain.specs.Domain.{Domain, Class, State, Action}
use Rattle.sml_domain.specs.Names.{same_name}
use Rattle.sml_domain.specs.Program.{Program}
use Rattle.sml_domain.specs.Asking.{ProgramSpares}
use Rattle.sml_domain.specs.Fits.{ProgramFits}
use Rattle.sml_domain.specs.Lookups.{class_at, class_number, state_in, block_in, is_signature, tree_of_block, may_at}
use Rattle.sml_domain.specs.Trees.{trees_of}
use Rattle.sml_domain.specs.Sound.{IsSound, AreInRange, ProgramsAskOthers, ClassFits, StateFits, ActionFits, FitsClass, TakesParams}
use Rattle.sml_domain.proofs.Numbers.{first_there}
use Rattle.sml_domain.proofs.Ranges.{OfBlocks, of_block}
use Rattle.sml_check_build.specs.Numbers.{Names, names_of, classes_in, objects_in, action_name, place_or, number}
use Rattle.sml_check_build.specs.Programs.{program}
use Rattle.sml_check_build.specs.Grown.{ActionThere, StateThere, ClassThere}
use Rattle.sml_check_build.specs.Rows.{ActionRow, StateRow, ClassRow, action_row, action_shown, state_row, row_of_state, class_row, class_shown, object_row, added_state, bare_state, action_param_row, params_where, signature_row}
use Rattle.sml_check_build.specs.FileDomain.{IsDomainOf, AreInPlace}
use Rattle.sml_check_build.proofs.Alike.{position_map, got_map}
use Rattle.sml_check_build.proofs.Numbered.{contains_map, all_from}
use Rattle.sml_check_build.proofs.Apart.{only, contains_unmap}
use Rattle.sml_check_build.proofs.PlacedFiles.{class_there, state_number, dead_number, action_number}
use Rattle.sml_check_build.proofs.Members.{members_differ}
use Rattle.sml_check_build.proofs.Ranges.{number_within, class_in, object_in, objects_fit, groups_fit, objects_apart, classes_apart, one_number}
use Rattle.sml_check_build.proofs.ClassRanges.{params_fit, params_apart, own_states, first_is, dead_is, signatures_fit, signatures_declared}
use Rattle.sml_check_build.proofs.ObjectRows.{signature_there, stands_there}
use Rattle.sml_check_build.proofs.ProgramRanges.{program_fits, program_spares}
use Rattle.sml_check_faults.specs.Tables.{class_name, object_name}

all_in : {X : Type 0} (P : X → Type 0) (xs : List X) (x : X) → AllByRecursion P xs → Contains xs x → P x
all_in P [] x all at = absurd (omega (at.1, arith))
all_in P (y ∷ xs) x all (zero, within, e) = subst P e all.0
all_in P (y ∷ xs) x all (suc k, within, e) = all_in P xs x all.1 (k, omega (within, arith), e)

-- an object of a domain, and its class, are those of a file
record ObjectSaid (file : List ItemData) (d : Domain) (o : ℕ) (x : Class) : Type 0 where
  pub said : ObjectData
  pub said_in : Contains file (object said)
  pub number_is : number (names_of file).objects said.name ≡ o
  pub of : ClassData
  pub of_in : Contains file (class of)
  pub named : of.name ≡ said.class
  pub row : class_shown (trees_of d.blocks) x ≡ class_row (names_of file) of

module _ (file : List ItemData) (d : Domain) (is : IsDomainOf file d) (placed : AreInPlace d) (ok : rules.FileIsSound file) where
  abbrev n : Names
  n = names_of file

  abbrev known : List Program
  known = trees_of d.blocks

  module _ (c : ClassData) (at : Contains file (class c)) (x : Class) (e : class_shown (trees_of d.blocks) x ≡ class_row n c) where
    action_fits : (z : Action) → ActionThere (length d.blocks) z → (a : ActionData) → Contains (actions c) a → action_row n c a ≡ action_shown (trees_of d.blocks) z → ActionFits d x z
    action_fits z there a a_at row =
        let has : HasAction file c a = record { class_in = at; action_in = a_at } in
        let same : number n.actions a.name ≡ z.number = ap (λ (r : ActionRow). r.number) row in
        let does : program n c a a.body ≡ tree_of_block d z.block = ap (λ (r : ActionRow). r.program) row in
        let f : Found (is_action_named a.name) (actions c) = found_there (is_action_named a.name) (actions c) a a_at (named_same a.name a.name refl) in
        let agree : f.item.params ≡ a.params = ok.params_agree c f.item a (record { class_in = at; action_in = f.at }) has (sym (same_names a.name f.item.name f.passes)) in
        let listed : params_where (file_action_named c a.name) ≡ map action_param_row a.params = ap params_where f.is ∙ ap (map action_param_row) agree in
        let takes : TakesParams d x (tree_of_block d z.block) (signature_row n c a.name) =
        subst (λ ps. ProgramFits d x ps (tree_of_block d z.block)) (sym listed)
        (subst (ProgramFits d x (map action_param_row a.params)) does (program_fits file d is ok c at x e a has)) in
        let signature : find (is_signature (number n.actions a.name)) x.signatures ≡ Some (signature_row n c a.name) =
        ap (λ (r : ClassRow). find (is_signature (number n.actions a.name)) r.signatures) e ∙ signature_there file d is ok c at a.name (contains_map action_name (actions c) a a_at) in
        record {
          number = subst (λ k. k < length d.actions) same (subst (λ ns. number n.actions a.name < length ns) (sym is.actions) (number_within n.actions a.name (action_number file c at a a_at)));
          block = there;
          program = subst (λ k. FitsClass d k z.block x) same (subst (λ o. IsSomeAnd o (TakesParams d x (tree_of_block d z.block))) (sym signature) takes);
        }

    state_within : (k : ℕ) → k < length n.states → k < length d.states
    state_within k lt = subst (λ ns. k < length ns) (sym is.states) lt

    -- a state of the class is one that the file declares, or the added one
    state_said : (s : State) → Contains x.states s → Contains (map (state_row n c) c.states) (row_of_state known s) ⊎ Contains (added_state n c) (row_of_state known s)
    state_said s s_at =
        Contains-append_cases (map (state_row n c) c.states) (added_state n c) (row_of_state known s)
        (subst (λ rows. Contains rows (row_of_state known s)) (own_states file d is ok c at x e) (contains_map (row_of_state known) x.states s s_at))

    added_within : (s : State) → (b : Bool) → adds_dead c ≡ b → Contains (if b then bare_state n dead_name ∷ [] else []) (row_of_state known s) → s.number < length d.states
    added_within s false adds s_at = absurd (omega (s_at.1, arith))
    added_within s true adds s_at =
        let row : bare_state n dead_name ≡ row_of_state known s = only (bare_state n dead_name) (row_of_state known s) s_at in
        state_within s.number (subst (λ k. k < length n.states) (ap (λ (r : StateRow). r.number) row) (number_within n.states dead_name (dead_number file c at adds)))

    number_within_states : (s : State) → Contains x.states s → s.number < length d.states
    number_within_states s s_at = by (state_said s s_at)
      where
        by : Contains (map (state_row n c) c.states) (row_of_state known s) ⊎ Contains (added_state n c) (row_of_state known s) → s.number < length d.states
        by (inl one) =
            let t = contains_unmap (state_row n c) c.states (row_of_state known s) one in
            state_within s.number (subst (λ k. k < length n.states) (ap (λ (r : StateRow). r.number) t.2) (number_within n.states t.0.name (state_number file c at t.0 t.1)))
        by (inr one) = added_within s (adds_dead c) refl one

    -- an action of a state is shown among the actions of its row
    action_shown_in : (s : State) (z : Action) → Contains s.actions z → (r : StateRow) → r ≡ row_of_state known s → Contains r.actions (action_shown known z)
    action_shown_in s z z_at r row =
        subst (λ rows. Contains rows (action_shown known z)) (sym (ap (λ (q : StateRow). q.actions) row)) (contains_map (action_shown known) s.actions z z_at)

    none_added : (s : State) (z : Action) → Contains s.actions z → (b : Bool) → Contains (if b then bare_state n dead_name ∷ [] else []) (row_of_state known s) → ⊥
    none_added s z z_at false s_at = omega (s_at.1, arith)
    none_added s z z_at true s_at =
        let none : Contains [] (action_shown known z) = action_shown_in s z z_at (bare_state n dead_name) (only (bare_state n dead_name) (row_of_state known s) s_at) in
        omega (none.1, arith)

    -- an action of the class is one that the file declares
    action_said : (s : State) → Contains x.states s → (z : Action) → Contains s.actions z → (a : ActionData) × Contains (actions c) a × (action_row n c a ≡ action_shown known z)
    action_said s s_at z z_at = by (state_said s s_at)
      where
        by : Contains (map (state_row n c) c.states) (row_of_state known s) ⊎ Contains (added_state n c) (row_of_state known s) → (a : ActionData) × Contains (actions c) a × (action_row n c a ≡ action_shown known z)
        by (inl one) =
            let t = contains_unmap (state_row n c) c.states (row_of_state known s) one in
            let a = contains_unmap (action_row n c) t.0.actions (action_shown known z) (action_shown_in s z z_at (state_row n c t.0) t.2) in
            (a.0, contains_all actions_of c.states t.0 a.0 t.1 a.1, a.2)
        by (inr one) = absurd (none_added s z z_at (adds_dead c) one)

    state_fits : (s : State) → StateThere (length d.blocks) s → Contains x.states s → StateFits d x s
    state_fits s there s_at = record {
      number = number_within_states s s_at;
      actions = all_from (ActionFits d x) s.actions (λ z z_at.
          let a = action_said s s_at z z_at in
          action_fits z (all_in (ActionThere (length d.blocks)) s.actions z there z_at) a.0 a.1 a.2);
    }

    -- no block of the class asks an object of it
    blocks_spare : (o : ObjectData) → Contains file (object o) → c.name ≡ o.class → OfBlocks (λ b. ProgramSpares (may_at d) (number n.objects o.name) (tree_of_block d b)) x
    blocks_spare o o_at named =
        all_from (λ (s : State). All (λ (z : Action). ProgramSpares (may_at d) (number n.objects o.name) (tree_of_block d z.block)) s.actions) x.states
        (λ s s_at. all_from (λ (z : Action). ProgramSpares (may_at d) (number n.objects o.name) (tree_of_block d z.block)) s.actions
        (λ z z_at. let a = action_said s s_at z z_at in
        subst (ProgramSpares (may_at d) (number n.objects o.name)) (ap (λ (r : ActionRow). r.program) a.2)
        (program_spares file d is ok c at x e a.0 (record { class_in = at; action_in = a.1 }) o o_at named)))

    class_fits : ClassThere (length d.blocks) x → ClassFits d x
    class_fits there = record {
      params = params_fit file d is ok c at x e;
      apart = params_apart file d is ok c at x e;
      states = all_from (StateFits d x) x.states (λ s s_at. state_fits s (all_in (StateThere (length d.blocks)) x.states s there s_at) s_at);
      initial = first_is file d is ok c at x e;
      dead = dead_is file d is ok c at x e;
      signatures = signatures_fit file d is ok c at x e;
      declared = signatures_declared file d is ok c at x e;
    }

  in_range : AreInRange d
  in_range = record {
    objects = objects_fit file d is ok;
    classes = all_from (ClassFits d) d.classes (λ x x_at.
        let c = contains_unmap (class_row n) (classes_in file) (class_shown (trees_of d.blocks) x)
        (subst (λ rows. Contains rows (class_shown (trees_of d.blocks) x)) is.classes (contains_map (class_shown (trees_of d.blocks)) d.classes x x_at)) in
        class_fits c.0 (class_in file c.0 c.1) x (sym c.2) (all_in (ClassThere (length d.blocks)) d.classes x placed.there x_at));
    groups = groups_fit file d is ok;
    blocks = placed.ordered;
  }

  -- ---- conditions

  class_said : (p : ObjectData) (c : ClassData) → Contains file (class c) → c.name ≡ p.class → option_map (class_shown known) (slice_get d.classes (number n.classes p.class)) ≡ Some (class_row n c)
  class_said p c at named =
      let k = number n.classes p.class in
      sym (got_map (class_shown known) d.classes k) ∙ ap (λ rows. slice_get rows k) is.classes ∙ got_map (class_row n) (classes_in file) k
      ∙ ap (λ y. option_map (class_row n) (slice_get (classes_in file) (number n.classes y))) (sym named)
      ∙ ap (option_map (class_row n)) (stands_there class_name (classes_in file) c (classes_apart file d is ok) (class_there file c at))

  object_said : (o : ℕ) (x : Class) → class_at d o ≡ Some x → ObjectSaid file d o x
  object_said o x found = by (slice_get (objects_in file) o) refl (sym (ap (λ r. option_and_then (slice_get d.classes) (option_map class_number r)) row) ∙ found)
    where
      row : slice_get d.objects o ≡ option_map (object_row n) (slice_get (objects_in file) o)
      row = ap (λ os. slice_get os o) is.objects ∙ got_map (object_row n) (objects_in file) o

      by : (q : Option ObjectData) → slice_get (objects_in file) o ≡ q → option_and_then (slice_get d.classes) (option_map class_number (option_map (object_row n) q)) ≡ Some x → ObjectSaid file d o x
      by None here is_class = absurd (none-some x is_class)
      by (Some p) here is_class =
          let p_at : Contains file (object p) = object_in file p (o, slice_get_within (objects_in file) o p here, get_or_from_slice_get (objects_in file) o p p here) in
          let c = ok.objects_have_classes p p_at in
          record {
            said = p;
            said_in = p_at;
            number_is = ap place_or (position_map object_name (same_name p.name) (objects_in file) ∙ first_there object_name (objects_in file) o p (objects_apart file d is ok) here);
            of = c.0;
            of_in = c.1;
            named = c.2;
            row = same_Some (class_shown known x) (class_row n c.0) (sym (ap (option_map (class_shown known)) is_class) ∙ class_said p c.0 c.1 c.2);
          }

  ask_others : ProgramsAskOthers d
  ask_others o s a b declared = by (class_at d o) refl declared
    where
      by : (k : Option Class) → class_at d o ≡ k → option_and_then (block_in a) (option_and_then (state_in s) k) ≡ Some b → ProgramSpares (may_at d) o (tree_of_block d b)
      by None found is_block = absurd (none-some b is_block)
      by (Some x) found is_block =
          let one = object_said o x found in
          subst (λ r. IfSome r (λ k. ProgramSpares (may_at d) o (tree_of_block d k))) is_block
          (of_block (λ k. ProgramSpares (may_at d) o (tree_of_block d k)) x s a
          (subst (λ i. OfBlocks (λ k. ProgramSpares (may_at d) i (tree_of_block d k)) x) one.number_is
          (blocks_spare one.of one.of_in x one.row one.said one.said_in one.named)))

  sound : IsSound d
  sound = record { range = in_range; names = one_number file d is ok; members = members_differ file d is ok; others = ask_others }

-- so it is
pub domain_is_sound : (file : List ItemData) (d : Domain) → IsWellFormed file → IsDomainOf file d → AreInPlace d → IsSound d
domain_is_sound file d ok is placed = sound file d is placed (keeps_rules file ok)
