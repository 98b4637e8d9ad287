-- The programs of a file's domain fit their classes, and none asks an object of its class.
use Rattle.std.proofs.Common.{◌≡◌, ◌∙◌, sym, ap, refl, subst, ℕ, ◌<◌, Bool, true, false, List, [], ◌∷◌, ◌++◌, length, map, Option, None, Some, is_some, All, inr, arith}
use Rattle.std.specs.Prelude.{◌≢◌, option_to_list}
use Rattle.std.specs.List.{Contains}
use Rattle.std.proofs.lemmas.List.Elements.{Contains-append_left, Contains-append_right}
use Rattle.sml_tree.specs.declared.cond.Scope.{Scope}
use Rattle.sml_tree.specs.declared.cond.Scope.TheVariants.{One, All as AllOf, Any}
use Rattle.sml_tree.specs.Syntax.{ArgData, SendData, CondData, both, either, neither, test, TestData, WaitedData, InstrData, send, choose, assign, move_to, terminate, wait_for, insert_in, remove_from, BlockData, done, step, ItemData, class, object, ClassData, ObjectData, ActionData}
use Rattle.sml_check_faults.specs.Sites.{Site, asks, tests, sets, ends, changes, waited_test, waited_site, cond_sites, instr_sites, block_sites}
use Rattle.sml_check_faults.specs.Lookup.{of_set, objects_meant}
use Rattle.sml_check_faults.specs.Inside.{HasAction, HasSite, DeclaresObject, DeclaresSet, Declares, SpeaksOf}
use Rattle.sml_check_faults.specs.Sound.{FileIsSound}
use Rattle.sml_check_faults.proofs.Named.{meant, spoken}
use Rattle.sml_check_faults.proofs.Pairs.{contains_here, contains_one, not_false}
use Rattle.sml_domain.specs.Domain.{Domain, Class, Param}
use Rattle.sml_domain.specs.Program.{Subject, Program}
use Rattle.sml_domain.specs.Fits.{kind_at, HasKindOf, DoFits, AskedFits, IsStateName, FormulaFits, ChangeFits, ProgramFits}
use Rattle.sml_domain.specs.Lookups.{may_at}
use Rattle.sml_domain.specs.Asking.{asked_of, AskedSpares, FormulaSpares, ProgramSpares}
use Rattle.sml_domain.specs.Trees.{trees_of}
use Rattle.sml_check_build.specs.Numbers.{Names, names_of, place, place_or, number}
use Rattle.sml_check_build.specs.Programs.{class_place, operand_numbered, argument_numbered, asked_numbered, number_list, state_numbers, formula_numbered, target_numbered, request, waited_asked, instr_then, program}
use Rattle.sml_check_build.specs.Rows.{class_row, class_shown, class_param_row, action_param_row}
use Rattle.sml_check_build.specs.FileDomain.{IsDomainOf}
use Rattle.sml_check_build.proofs.Numbered.{all_from, contains_map}
use Rattle.sml_check_build.proofs.Apart.{only, contains_unmap}
use Rattle.sml_check_build.proofs.PlacedFiles.{object_number}
use Rattle.sml_check_build.proofs.ObjectRows.{one_name}
use Rattle.sml_check_build.proofs.Places.{own_kind, value_kind}
use Rattle.sml_check_build.proofs.Ranges.{number_within}
use Rattle.sml_check_build.proofs.ClassRanges.{own_params, end_is}
use Rattle.sml_check_build.proofs.RequestRanges.{has_number, do_fits, may_there, object_within, group_within}
use Rattle.sml_check_build.proofs.Mays.{may_declared}

none_mapped : {X Y : Type 0} (f : X → Y) (xs : List X) → ((x : X) → Contains xs x → ⊥) → map f xs ≡ []
none_mapped f [] none = refl
none_mapped f (x ∷ xs) none = absurd (none x (contains_here x xs))

module _ (file : List ItemData) (d : Domain) (is : IsDomainOf file d) (ok : FileIsSound file) (c : ClassData) (at : Contains file (class c)) (x : Class) (e : class_shown (trees_of d.blocks) x ≡ class_row (names_of file) c) (a : ActionData) (has : HasAction file c a) where
  abbrev n : Names
  n = names_of file

  abbrev own : List Param
  own = map class_param_row c.params

  abbrev given : List Param
  given = map action_param_row a.params

  abbrev AreHere : List Site → Type 0
  AreHere sites = (s : Site) → Contains sites s → HasSite file c a s

  left : (xs ys : List Site) → AreHere (xs ++ ys) → AreHere xs
  left xs ys each s s_at = each s (Contains-append_left xs ys s s_at)

  right : (xs ys : List Site) → AreHere (xs ++ ys) → AreHere ys
  right xs ys each s s_at = each s (Contains-append_right xs ys s s_at)

  -- ---- conditions

  asked_fits : (scope : Scope) (y : List ℕ) → Declares file (of_set scope) y → AskedFits d (asked_numbered n scope y)
  asked_fits One y o = object_within file d is ok c at a has y o
  asked_fits AllOf y g = group_within file d is ok c at a has y g
  asked_fits Any y g = group_within file d is ok c at a has y g

  state_within : (s : List ℕ) (k : ℕ) (o : Option ℕ) → place n.states s ≡ o → Contains (option_to_list o) k → IsStateName d k
  state_within s k None found k_at = absurd (omega (k_at.1, arith))
  state_within s k (Some j) found k_at =
      subst (λ ss. k < length ss) (sym is.states)
      (subst (λ i. i < length n.states) (ap place_or found ∙ only j k k_at) (number_within n.states s (ap is_some found)))

  states_fit : (states : List (List ℕ)) → All (IsStateName d) (state_numbers n states)
  states_fit states = all_from (IsStateName d) (state_numbers n states) (λ k k_at. let s = contains_one (number_list n.states) states k k_at in state_within s.0 k (place n.states s.0) refl s.2)

  formula_fits : (f : CondData) → AreHere (cond_sites f) → FormulaFits d (formula_numbered n f)
  formula_fits (both f g) each = (formula_fits f (left (cond_sites f) (cond_sites g) each), formula_fits g (right (cond_sites f) (cond_sites g) each))
  formula_fits (either f g) each = (formula_fits f (left (cond_sites f) (cond_sites g) each), formula_fits g (right (cond_sites f) (cond_sites g) each))
  formula_fits (neither f) each = formula_fits f each
  formula_fits (test t) each = (asked_fits t.scope t.name (ok.tests_are_declared c a t (each (tests t) (contains_here (tests t) []))), states_fit t.states)

  -- ---- waits

  -- what holds of whatever is waited for, where it holds of each of these tests
  waited_one : (P : Subject → Type 0) (ws : List WaitedData) → AreHere (map waited_site ws)
      → ((t : TestData) → HasSite file c a (tests t) → P (asked_numbered n t.scope t.name)) → (y : Subject) → Contains (map (waited_asked n) ws) y → P y
  waited_one P ws each holds y y_at =
      let w = contains_unmap (waited_asked n) ws y y_at in
      subst P w.2 (holds (waited_test w.0) (each (waited_site w.0) (contains_map waited_site ws w.0 w.1)))

  each_waited : (P : Subject → Type 0) (ws : List WaitedData) → AreHere (map waited_site ws)
      → ((t : TestData) → HasSite file c a (tests t) → P (asked_numbered n t.scope t.name)) → All P (map (waited_asked n) ws)
  each_waited P ws each holds = all_from P (map (waited_asked n) ws) (waited_one P ws each holds)

  waits_fit : (ws : List WaitedData) → AreHere (map waited_site ws) → All (AskedFits d) (map (waited_asked n) ws)
  waits_fit ws each = each_waited (AskedFits d) ws each (λ t site. asked_fits t.scope t.name (ok.tests_are_declared c a t site))

  -- ---- requests

  no_targets : (s : SendData) → HasSite file c a (asks s) → place n.actions s.action ≡ None → (all : Bool) → s.all ≡ all → Declares file all s.target →
      (number n.groups s.target < length d.groups) × (may_at d (number n.groups s.target) ≡ [])
  no_targets s site none false all o =
      let some = has_number file d is ok c at a has s site s.target (subst (λ b. SpeaksOf file b s.target s.target) (sym all) refl) o in
      absurd (not_false (sym some ∙ ap is_some none))
  no_targets s site none true all g = (
    group_within file d is ok c at a has s.target g,
    may_there file d is ok c at a has s.target g
        ∙ none_mapped (number n.objects) (objects_meant file true s.target)
        (λ t t_at.
        let spoken_of = spoken file true s.target t t_at in
        not_false (sym (has_number file d is ok c at a has s site t (subst (λ b. SpeaksOf file b s.target t)
        (sym all) spoken_of) (may_declared file ok s.target t spoken_of)) ∙ ap is_some none)),
  )

  request_then : (s : SendData) → HasSite file c a (asks s) → (o : Option ℕ) → place n.actions s.action ≡ o → (rest : Program) → ProgramFits d x given rest → ProgramFits d x given (request n c a s o rest)
  request_then s site None none rest fits = let no = no_targets s site none s.all refl (ok.targets_are_declared c a s site) in (no.0, no.1, fits)
  request_then s site (Some k) found rest fits =
      let same : number n.actions s.action ≡ k = ap place_or found in (
        subst (λ i. DoFits d x.params given i (map (argument_numbered c a) s.args) (target_numbered n s.all s.target)) same
            (subst (λ ps. DoFits d ps given (number n.actions s.action) (map (argument_numbered c a) s.args) (target_numbered n s.all s.target)) (sym (own_params file d is ok c at x e))
            (do_fits file d is ok c at a has s site (ap is_some found))),
        fits,
      )

  set_fits : (y : List ℕ) (v : ArgData) → HasSite file c a (sets y v) → HasKindOf x.params given (kind_at x.params (place_or (class_place c y))) (operand_numbered c a v)
  set_fits y v site =
      let p = ok.sets_fit c a y v site in
      let fits : HasKindOf own given (kind_at own (place_or (class_place c y))) (operand_numbered c a v) = record { kind = p.0.kind; param_is = own_kind file ok c at y p.0 p.1 p.2; value_is = value_kind file ok c at a has v p.0.kind p.3 } in
      subst (λ ps. HasKindOf ps given (kind_at ps (place_or (class_place c y))) (operand_numbered c a v)) (sym (own_params file d is ok c at x e)) fits

  -- ---- changes of sets

  -- what is inserted is among those that the set may come to have
  inserted_may : (m s : List ℕ) → HasSite file c a (changes true m s) → DeclaresObject file m
      → (g : DeclaresSet file s) → Contains (may_at d (number n.groups s)) (number n.objects m)
  inserted_may m s site o g =
      subst (λ ks. Contains ks (number n.objects m)) (sym (may_there file d is ok c at a has s g))
      (contains_map (number n.objects) (objects_meant file true s) m
      (meant file ok.different true s m
      (g.0, g.1, g.2, inr (record { own_class = c; own_action = a; site = site; declared = o }))))

  change_fits : (add : Bool) (m s : List ℕ) → HasSite file c a (changes add m s)
      → ChangeFits d add (number n.objects m) (number n.groups s)
  change_fits add m s site =
      let known = ok.changes_are_declared c a add m s site in
      record {
        member_is = object_within file d is ok c at a has m known.0;
        set_is = group_within file d is ok c at a has s known.1;
        may = λ adds. inserted_may m s (subst (λ b. HasSite file c a (changes b m s)) adds site) known.0 known.1;
      }

  -- ---- blocks

  mutual
    instr_fits : (i : InstrData) → AreHere (instr_sites i) → (rest : Program) → ProgramFits d x given rest → ProgramFits d x given (instr_then n c a i rest)
    instr_fits (send s) each rest fits = request_then s (each (asks s) (contains_here (asks s) [])) (place n.actions s.action) refl rest fits
    instr_fits (choose f p q) each rest fits =
        let blocks = right (cond_sites f) (block_sites p ++ block_sites q) each in
        (formula_fits f (left (cond_sites f) (block_sites p ++ block_sites q) each), block_fits p (left (block_sites p) (block_sites q) blocks), block_fits q (right (block_sites p) (block_sites q) blocks), fits)
    instr_fits (assign y v) each rest fits = (set_fits y v (each (sets y v) (contains_here (sets y v) [])), fits)
    instr_fits (move_to s) each rest fits = end_is file d is ok c at x e s (ok.ends_are_states c a s (each (ends s) (contains_here (ends s) [])))
    instr_fits (terminate s) each rest fits = end_is file d is ok c at x e s (ok.ends_are_states c a s (each (ends s) (contains_here (ends s) [])))
    instr_fits (wait_for ws) each rest fits = (waits_fit ws each, fits)
    instr_fits (insert_in m s) each rest fits =
        (change_fits true m s (each (changes true m s) (contains_here (changes true m s) [])), fits)
    instr_fits (remove_from m s) each rest fits =
        (change_fits false m s (each (changes false m s) (contains_here (changes false m s) [])), fits)

    pub block_fits : (b : BlockData) → AreHere (block_sites b) → ProgramFits d x given (program n c a b)
    block_fits done each = tt
    block_fits (step i rest) each = instr_fits i (left (instr_sites i) (block_sites rest) each) (program n c a rest) (block_fits rest (right (instr_sites i) (block_sites rest) each))

  -- the program of an action
  pub program_fits : ProgramFits d x given (program n c a a.body)
  program_fits = block_fits a.body (λ s s_at. record { class_in = at; action_in = has.action_in; site_in = s_at })

  -- ---- an object of the class, which no condition and no `wait` asks

  module _ (o : ObjectData) (o_at : Contains file (object o)) (named : c.name ≡ o.class) where
    abbrev itself : ℕ
    itself = number n.objects o.name

    abbrev Spares : Program → Type 0
    Spares p = ProgramSpares (may_at d) itself p

    -- an object that a test speaks of has another number
    other : (t : TestData) → HasSite file c a (tests t) → (y : List ℕ) → SpeaksOf file (of_set t.scope) t.name y → DeclaresObject file y → number n.objects y ≢ itself
    other t site y spoken p same =
        let is_own : y ≡ o.name = one_name n.objects y o.name (object_number file y p) (object_number file o.name (o, o_at, refl)) same in
        ok.tests_ask_others c a t site y spoken c (record { declared = o; object_in = o_at; object_name = sym is_own; class_in = at; class_name = named }) refl

    one_spares : (t : TestData) → HasSite file c a (tests t) → of_set t.scope ≡ false → DeclaresObject file t.name → ¬ Contains (number n.objects t.name ∷ []) itself
    one_spares t site one p asks_it =
        other t site t.name (subst (λ b. SpeaksOf file b t.name t.name) (sym one) refl) p (only (number n.objects t.name) itself asks_it)

    set_spares : (t : TestData) → HasSite file c a (tests t) → of_set t.scope ≡ true → (g : DeclaresSet file t.name) → ¬ Contains (may_at d (number n.groups t.name)) itself
    set_spares t site set g asks_it =
        let m = contains_unmap (number n.objects) (objects_meant file true t.name) itself
        (subst (λ ms. Contains ms itself) (may_there file d is ok c at a has t.name g) asks_it) in
        let spoken_of = spoken file true t.name m.0 m.1 in
        other t site m.0 (subst (λ b. SpeaksOf file b t.name m.0) (sym set) spoken_of)
        (may_declared file ok t.name m.0 spoken_of) m.2

    test_spares : (t : TestData) → HasSite file c a (tests t) → (scope : Scope) → of_set t.scope ≡ of_set scope → Declares file (of_set scope) t.name →
        ¬ Contains (asked_of (may_at d) (asked_numbered n scope t.name)) itself
    test_spares t site One is_one p = one_spares t site is_one p
    test_spares t site AllOf is_set g = set_spares t site is_set g
    test_spares t site Any is_set g = set_spares t site is_set g

    formula_spares : (f : CondData) → AreHere (cond_sites f) → FormulaSpares (may_at d) itself (formula_numbered n f)
    formula_spares (both f g) each = (formula_spares f (left (cond_sites f) (cond_sites g) each), formula_spares g (right (cond_sites f) (cond_sites g) each))
    formula_spares (either f g) each = (formula_spares f (left (cond_sites f) (cond_sites g) each), formula_spares g (right (cond_sites f) (cond_sites g) each))
    formula_spares (neither f) each = formula_spares f each
    formula_spares (test t) each = let site = each (tests t) (contains_here (tests t) []) in test_spares t site t.scope refl (ok.tests_are_declared c a t site)

    waits_spare : (ws : List WaitedData) → AreHere (map waited_site ws) → All (AskedSpares (may_at d) itself) (map (waited_asked n) ws)
    waits_spare ws each =
        each_waited (AskedSpares (may_at d) itself) ws each (λ t site. test_spares t site t.scope refl (ok.tests_are_declared c a t site))

    request_spares : (s : SendData) (k : Option ℕ) (rest : Program) → Spares rest → Spares (request n c a s k rest)
    request_spares s None rest spares = spares
    request_spares s (Some k) rest spares = spares

    mutual
      instr_spares : (i : InstrData) → AreHere (instr_sites i) → (rest : Program) → Spares rest → Spares (instr_then n c a i rest)
      instr_spares (send s) each rest spares = request_spares s (place n.actions s.action) rest spares
      instr_spares (choose f p q) each rest spares =
          let blocks = right (cond_sites f) (block_sites p ++ block_sites q) each in
          (formula_spares f (left (cond_sites f) (block_sites p ++ block_sites q) each), block_spares p (left (block_sites p) (block_sites q) blocks), block_spares q (right (block_sites p) (block_sites q) blocks), spares)
      instr_spares (assign y v) each rest spares = spares
      instr_spares (move_to s) each rest spares = tt
      instr_spares (terminate s) each rest spares = tt
      instr_spares (wait_for ws) each rest spares = (waits_spare ws each, spares)
      instr_spares (insert_in m s) each rest spares = spares
      instr_spares (remove_from m s) each rest spares = spares

      block_spares : (b : BlockData) → AreHere (block_sites b) → Spares (program n c a b)
      block_spares done each = tt
      block_spares (step i rest) each = instr_spares i (left (instr_sites i) (block_sites rest) each) (program n c a rest) (block_spares rest (right (instr_sites i) (block_sites rest) each))

    -- no condition and no `wait` of the program of an action asks it
    pub program_spares : Spares (program n c a a.body)
    program_spares = block_spares a.body (λ s s_at. record { class_in = at; action_in = has.action_in; site_in = s_at })
