-- What states and values of a well-formed file are.
use Rattle.std.proofs.Common.{◌≡◌, ◌∙◌, sym, ap, subst, refl, ℕ, Bool, true, false, not, ◌&&◌, ◌||◌, List, [], ◌∷◌, Option, Some, None, is_some, option_map, inl, inr, arith}
use Rattle.std.specs.List.{Contains, list_any}
use Rattle.sml_tree.specs.declared.file.Kind.{Kind}
use Rattle.sml_tree.specs.Syntax.{ArgData, lit, param, ItemData, ClassData, ActionData, ActionParamData, ClassParamData}
use Rattle.sml_check_faults.specs.declared.kind.CheckKind.TheVariants.{UnknownState, UnknownParam, KindMismatch}
use Rattle.sml_check_faults.specs.Sites.{asks, tests, sets, ends}
use Rattle.sml_check_faults.specs.Lookup.{named, where_so, dead_name, is_dead, is_state_named, adds_dead, has_state_named, class_of, is_class_param, is_action_param, class_param_named, action_param_named, objects_meant, of_set}
use Rattle.sml_check_faults.specs.Faults.{has_state_there, object_has_state, state_of_none, states_of_none, unknown_value, literal_kind, class_param_kind, action_param_kind, kind_there, arg_kind, kinds_differ, file_param_kind, other_kind_there, unknown_passed, lacks_param_there, lacks_param, mismatched}
use Rattle.sml_check_faults.specs.Heads.{class_param_mismatch, action_param_mismatch}
use Rattle.sml_check_faults.specs.Inside.{IsOfClass}
use Rattle.sml_check_faults.specs.Laws.{OfWellFormed}
use Rattle.sml_check_faults.specs.ValueLaws.{CanBeIn, EndsAreStates, TestsNameStates, IsParam, ArgHasKind, FileArgumentsHaveKinds, FileArgumentsFit, SetsFit, ClassDefaultsFit, ActionDefaultsFit}
use Rattle.sml_check_faults.proofs.Pairs.{left_nil, right_nil, flat_nil, not_so, first_false, second_false, none_of, other_names, any_there, same_names}
use Rattle.sml_check_faults.proofs.Named.{meant, spoken, of_class, found_is, found}
use Rattle.sml_check_faults.proofs.SameParams.{and_first, and_second, kinds_agree}
use Rattle.sml_check_faults.proofs.WellFormed.{no_fault, not_not, at_head, at_action_head, at_site}
use Rattle.sml_check_faults.proofs.Sound.{different}
use Rattle.sml_check_faults.proofs.Asked.{target_in, asked}

-- ---- states

not_true : (b : Bool) → not b ≡ true → b ≡ false
not_true true e = cc
not_true false e = refl

in_state : (c : ClassData) (n : List ℕ) → has_state_named c n ≡ true → CanBeIn c n
in_state c n e = by (list_any (is_state_named n) c.states) refl e
  where
    by : (b : Bool) → list_any (is_state_named n) c.states ≡ b → (b || (adds_dead c && named n dead_name)) ≡ true → CanBeIn c n
    by true own f = let s = any_there (is_state_named n) c.states own in inl (s.0, s.1, sym (same_names n s.0.name s.2))
    by false own f =
        let none = not_true (list_any is_dead c.states) (and_first (adds_dead c) (named n dead_name) f) in
        inr (
          same_names n dead_name (and_second (adds_dead c) (named n dead_name) f),
          λ s at. let alive = none_of is_dead c.states s at none in
              (first_false s.dead (named dead_name s.name) alive, other_names s.name dead_name (second_false s.dead (named dead_name s.name) alive)),
        )

pub ends_are_states : OfWellFormed EndsAreStates
ends_are_states file ok c a n at = in_state c n (not_not _ (not_so _ n (at_site UnknownState file (no_fault file ok UnknownState (7, omega arith, refl)) c a (ends n) at)))

-- a test that asks an object has only states that one of them can be in
none_unknown : (file : List ItemData) (objects states : List (List ℕ)) (o n : List ℕ) → Contains objects o → Contains states n → states_of_none file objects states ≡ []
    → list_any (object_has_state file n) objects ≡ true
none_unknown file [] states o n asked at none = absurd (omega (asked.1, arith))
none_unknown file (p ∷ objects) states o n asked at none = not_not _ (not_so _ n (flat_nil (state_of_none file (p ∷ objects)) states n at none))

some_in_state : (file : List ItemData) (n o : List ℕ) → object_has_state file n o ≡ true → (d : ClassData) × IsOfClass file o d × CanBeIn d n
some_in_state file n o e = by (class_of file o) refl e
  where
    by : (d : Option ClassData) → class_of file o ≡ d → has_state_there n d ≡ true → (d : ClassData) × IsOfClass file o d × CanBeIn d n
    by None is f = cc
    by (Some d) is f = (d, of_class file o d is, in_state d n f)

pub tests_name_states : OfWellFormed TestsNameStates
tests_name_states file ok c a t at o speaks n in_states =
    let set = of_set t.scope in
    let none = at_site UnknownState file (no_fault file ok UnknownState (7, omega arith, refl)) c a (tests t) at in
    let one = any_there (object_has_state file n) (objects_meant file set t.name)
    (none_unknown file (objects_meant file set t.name) t.states o n (meant file (different file ok) set t.name o speaks) in_states none) in
    let its = some_in_state file n one.0 one.2 in
    record { one = one.0; is_spoken_of = spoken file set t.name one.0 one.1; of = its.0; is_of_class = its.1; can_be_in = its.2 }

-- ---- values

-- the kind that is found is the kind of a value that names no unknown parameter
kind_known : (c : ClassData) (a : ActionData) (v : ArgData) → unknown_value c a v ≡ [] → (k : Kind) × (arg_kind c a v ≡ Some k) × ArgHasKind c a v k
kind_known c a (lit l) e = (literal_kind l, refl, refl)
kind_known c a (param n) e = by (class_param_named c n) (action_param_named a n) refl refl (not_not _ (not_so _ n e))
  where
    by : (o : Option ClassParamData) (r : Option ActionParamData) → class_param_named c n ≡ o → action_param_named a n ≡ r → (is_some o || is_some r) ≡ true
        → (k : Kind) × (kind_there (class_param_named c n) (action_param_named a n) ≡ Some k) × IsParam c a n k
    by (Some p) r own other f =
        let one = found_is (is_class_param n) c.params p own in
        (p.kind, ap (λ m. kind_there m (action_param_named a n)) own, inl (p, one.0, sym (same_names n p.name one.1), refl))
    by None (Some p) own other f =
        let one = found_is (is_action_param n) a.params p other in
        (p.kind, ap (λ m. kind_there m (action_param_named a n)) own ∙ ap (kind_there None) other, inr (p, one.0, sym (same_names n p.name one.1), refl))
    by None None own other f = cc

agree : (j k : Kind) → kinds_differ (Some j) (Some k) ≡ false → k ≡ j
agree j k e = sym (kinds_agree j k (not_not _ e))

-- a value has the kind that it does not differ from
fits : (c : ClassData) (a : ActionData) (v : ArgData) (k : Kind) → unknown_value c a v ≡ [] → kinds_differ (Some k) (arg_kind c a v) ≡ false → ArgHasKind c a v k
fits c a v k known e =
    let one = kind_known c a v known in subst (ArgHasKind c a v) (agree k one.0 (sym (ap (kinds_differ (Some k)) one.1) ∙ e)) one.2

pub arguments_have_kinds : OfWellFormed FileArgumentsHaveKinds
arguments_have_kinds file ok c a s at q in_args =
    let none = at_site UnknownParam file (no_fault file ok UnknownParam (9, omega arith, refl)) c a (asks s) at in
    let known = right_nil (where_so (list_any (lacks_param_there file s.action q.name) (objects_meant file s.all s.target)) q.name) _
    (flat_nil (unknown_passed file s.action (objects_meant file s.all s.target) c a) s.args q in_args none) in
    let one = kind_known c a q.value known in (one.0, one.2)

pub arguments_fit : OfWellFormed FileArgumentsFit
arguments_fit file ok s d b at q in_args =
    let f = asked file ok s d b at in
    let c = at.sends.own_class in
    let a = at.sends.own_action in
    let objects = objects_meant file s.all s.target in
    let here = flat_nil (unknown_passed file s.action objects c a) s.args q in_args (at_site UnknownParam file (no_fault file ok UnknownParam (9, omega arith, refl)) c a (asks s) at.sends.site) in
    let known = right_nil (where_so (list_any (lacks_param_there file s.action q.name) objects) q.name) (unknown_value c a q.value) here in
    let has = none_of (lacks_param_there file s.action q.name) objects at.sends.target (target_in file ok s d at.sends) (not_so _ q.name (left_nil _ (unknown_value c a q.value) here)) in
    let p = found (is_action_param q.name) f.0.params (not_not _ (sym (ap (lacks_param q.name) f.1) ∙ has)) in
    let same = flat_nil (mismatched file s.action objects c a) s.args q in_args (at_site KindMismatch file (no_fault file ok KindMismatch (10, omega arith, refl)) c a (asks s) at.sends.site) in
    let same_there = none_of (other_kind_there file s.action (arg_kind c a q.value) q.name) objects at.sends.target (target_in file ok s d at.sends) (not_so _ q.name same) in
    let own = ap (file_param_kind q.name) f.1 ∙ ap (option_map action_param_kind) p.is in (
      p.item,
      subst (λ ps. Contains ps p.item) f.2 p.at,
      sym (same_names q.name p.item.name p.passes),
      fits c a q.value p.item.kind known (sym (ap (λ k. kinds_differ k (arg_kind c a q.value)) own) ∙ same_there),
    )

pub sets_fit : OfWellFormed SetsFit
sets_fit file ok c a n v at =
    let none = at_site UnknownParam file (no_fault file ok UnknownParam (9, omega arith, refl)) c a (sets n v) at in
    let p = found (is_class_param n) c.params (not_not _ (not_so _ n (left_nil _ (unknown_value c a v) none))) in
    let known = right_nil (where_so (not (is_some (class_param_named c n))) n) (unknown_value c a v) none in
    let same = not_so _ n (at_site KindMismatch file (no_fault file ok KindMismatch (10, omega arith, refl)) c a (sets n v) at) in
    (p.item, p.at, sym (same_names n p.item.name p.passes), fits c a v p.item.kind known (sym (ap (λ o. kinds_differ (option_map class_param_kind o) (arg_kind c a v)) p.is) ∙ same))

pub class_defaults_fit : OfWellFormed ClassDefaultsFit
class_defaults_fit file ok c at p in_params =
    sym (kinds_agree p.kind (literal_kind p.value)
    (not_not _ (not_so _ p.name (flat_nil class_param_mismatch c.params p in_params (at_head KindMismatch file (no_fault file ok KindMismatch (10, omega arith, refl)) c at)))))

pub action_defaults_fit : OfWellFormed ActionDefaultsFit
action_defaults_fit file ok c a at p in_params l is =
    let none = not_so _ p.name (flat_nil action_param_mismatch a.params p in_params (at_action_head KindMismatch file (no_fault file ok KindMismatch (10, omega arith, refl)) c a at)) in
    agree p.kind (literal_kind l) (sym (ap (λ o. kinds_differ (Some p.kind) (option_map literal_kind o)) is) ∙ none)
