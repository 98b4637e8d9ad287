-- The outset of a legal journal suits its domain.
use Rattle.std.proofs.Common.{◌≡◌, ◌<◌, ◌+◌, ℕ, zero, suc, List, [], ◌∷◌, Option, Some, None, length, map, get_or, option_map, refl, sym, ap, ◌∙◌, subst, arith}
use Rattle.std.specs.List.{range_with_len, filter_map}
use Rattle.std.specs.Option.{option_map_or}
use Rattle.std.proofs.lemmas.List.{get_or-map, length-map}
use Rattle.std.proofs.lemmas.List.FromFn.{get_or-range_with_len, length-map-range_with_len}
use Rattle.sml_domain.specs.declared.value.Value.{Value}
use Rattle.sml_domain.specs.Domain.{Class, Param}
use Rattle.sml_domain.specs.Lookups.{name_of_object, class_at, initial_state, dead_state, class_params_at}
use Rattle.sml_domain.specs.Sound.{name_of_group}
use Rattle.smi_journal_entries.specs.declared.journal.Format.TheVariants.{Two}
use Rattle.smi_meaning.specs.Environment.{ValuesFit}
use Rattle.smi_meaning.specs.Params.{first_value}
use Rattle.smi_meaning.proofs.StatesKnown.{state_is_known}
use Rattle.smi_meaning.proofs.ValuesKept.{legal_fits, members_are_few}
use Rattle.sml_outset.specs.Outset.{Stand}
use Rattle.sml_outset.specs.Suits.{ParamSuits, StandSuits, MembersSuit}
use Rattle.smi_outset.specs.After.{with_values, stand_after, set_after, OutsetSuits, StandingBegins}

-- what is made of each number below
read_made : {X : Type 0} (f : ℕ → X) (n k : ℕ) (x : X) → k < n → get_or (map f (range_with_len 0 n)) k x ≡ f k
read_made f n k x lt =
    let long : length (range_with_len 0 n) ≡ n = sym (length-map (range_with_len 0 n) f) ∙ length-map-range_with_len f 0 n in
    let zero_more : 0 + k ≡ k = omega arith in
    get_or-map f (range_with_len 0 n) k 0 x (omega (arith, lt, long)) ∙ ap f (get_or-range_with_len 0 n k 0 lt) ∙ ap f zero_more

-- ---- values

values_count : (params : List Param) (values : List Value) → ValuesFit values params → length (with_values params values) ≡ length params
values_count [] values h = refl
values_count (p ∷ params) [] h = absurd h
values_count (p ∷ params) (v ∷ values) h = ap suc (values_count params values h.1)

each_suits : (params : List Param) (values : List Value) → ValuesFit values params
    → (k : ℕ) (p x : Param) → k < length params → ParamSuits (get_or params k p) (get_or (with_values params values) k x)
each_suits [] values h k p x lt = absurd (omega (arith, lt))
each_suits (q ∷ params) [] h k p x lt = absurd h
each_suits (q ∷ params) (v ∷ values) h zero p x lt = record { name = refl; kind = refl; value = h.0 }
each_suits (q ∷ params) (v ∷ values) h (suc k) p x lt = each_suits params values h.1 k p x (omega (arith, lt))

-- the values with which they begin
values_back : (params : List Param) (values : List Value) → ValuesFit values params → filter_map first_value (with_values params values) ≡ values
values_back [] [] h = refl
values_back [] (v ∷ values) h = absurd h
values_back (p ∷ params) [] h = absurd h
values_back (p ∷ params) (v ∷ values) h = ap (λ vs. v ∷ vs) (values_back params values h.1)

pub outset_suits : OutsetSuits
outset_suits d J own sound legal of values = record {
  objects = length-map-range_with_len (stand_after d J own) 0 (length d.objects);
  sets = length-map-range_with_len (set_after d J) 0 (length d.groups);
  stand = λ o s lt.
      let less : o < length d.objects = omega (arith, lt, length-map-range_with_len (stand_after d J own) 0 (length d.objects)) in
      let fit : ValuesFit (own o) (class_params_at d o) = (legal_fits Two d J sound legal).params o (own o) (values o) in
      subst (StandSuits d o) (sym (read_made (stand_after d J own) (length d.objects) o s less))
      (record {
        state = state_is_known Two d J o sound less legal;
        params = record { count = values_count (class_params_at d o) (own o) fit; each = each_suits (class_params_at d o) (own o) fit };
      });
  have = λ set m lt.
      let less : set < length d.groups = omega (arith, lt, length-map-range_with_len (set_after d J) 0 (length d.groups)) in
      subst (MembersSuit d set) (sym (read_made (set_after d J) (length d.groups) set m less))
      (record { may = members_are_few Two d J sound legal set; once = (of set).0 });
}

-- ---- a domain that stands so

or_is : (f : Class → ℕ) (m : Option Class) → option_map_or f m 0 ≡ option_map_or (λ n. n) (option_map f m) 0
or_is f None = refl
or_is f (Some c) = refl

pub standing_begins : StandingBegins
standing_begins d e J own sound legal values stands = record {
  goes_on = record {
    objects = objects;
    groups = groups;
    dead = λ o. or_is dead_state (class_at e o) ∙ ap (λ m. option_map_or (λ n. n) m 0) (stands.before.dead o) ∙ sym (or_is dead_state (class_at d o));
    states = λ o lt.
        or_is initial_state (class_at e o)
        ∙ ap (λ m. option_map_or (λ n. n) m 0) (stands.begins.initial o (stand_after d J own o) (omega (arith, lt, objects)))
        ∙ ap (λ (s : Stand). s.state) (read_made (stand_after d J own) (length d.objects) o (stand_after d J own o) lt);
    members = λ set lt.
        stands.begins.members set (omega (arith, lt, groups)) ∙ read_made (set_after d J) (length d.groups) set [] lt;
  };
  params = λ o lt.
      ap (filter_map first_value)
      (stands.begins.params o (stand_after d J own o) (omega (arith, lt, objects))
      ∙ ap (λ (s : Stand). s.params) (read_made (stand_after d J own) (length d.objects) o (stand_after d J own o) lt))
      ∙ values_back (class_params_at d o) (own o) ((legal_fits Two d J sound legal).params o (own o) (values o));
}
  where
    objects : length e.objects ≡ length d.objects
    objects = sym (length-map e.objects name_of_object) ∙ ap length stands.before.objects ∙ length-map d.objects name_of_object

    groups : length e.groups ≡ length d.groups
    groups = sym (length-map e.groups name_of_group) ∙ ap length stands.before.groups ∙ length-map d.groups name_of_group
