-- Arguments that fit parameters, no two of them of one name, are complete.
use Rattle.std.proofs.Common.{◌≡◌, ◌∙◌, Bool, true, false, not, List, [], ◌∷◌, All, get_or, map, find, Option, None, Some, option_map, is_some, is_none, sym, refl, ap}
use Rattle.std.specs.Prelude.{◌||◌}
use Rattle.std.specs.List.{list_any}
use Rattle.std.specs.Option.{option_map_or}
use Rattle.std.proofs.lemmas.Bool.{or_from}
use Rattle.std.proofs.lemmas.List.Folds.{list_any_none}
use Rattle.sml_tree.specs.declared.file.Kind.{Kind}
use Rattle.sml_domain.specs.declared.value.Value.{Value}
use Rattle.sml_domain.specs.Names.{same_name, AreDistinct}
use Rattle.sml_domain.specs.Values.{kind_of}
use Rattle.sml_domain.specs.Program.{Operand, Argument}
use Rattle.sml_domain.specs.Domain.{Param}
use Rattle.sml_domain.specs.Completing.{Passed, is_passed_by, value_passed, value_or}
use Rattle.sml_domain.specs.Fits.{ArgumentFits, IsGiven, name_of_argument}
use Rattle.sml_domain.specs.Laws.{KeepsKinds, passed_as}
use Rattle.sml_domain.proofs.Finds.{none_passes}
use Rattle.smi_journal_entries.specs.BadArguments.{has_unknown_name, has_wrong_kind, repeats_a_name, gets_none}
use Rattle.smi_journal_entries.specs.Laws.{FittingIsGood}
use Rattle.smi_journal_entries.proofs.Completed.{kinds_same}
use Rattle.sml_tree.specs.Kinds.{same_kind}

any_mapped : {X Y : Type 0} (f : X → Y) (test : Y → Bool) (xs : List X) → list_any test (map f xs) ≡ list_any (λ x. test (f x)) xs
any_mapped f test [] = refl
any_mapped f test (x ∷ xs) = ap (λ b. test (f x) || b) (any_mapped f test xs)

not_none : (o : Option Value) → is_some o ≡ true → is_none o ≡ false
not_none None e = absurd (cc e)
not_none (Some v) e = refl

module _ (own given params : List Param) (value : Operand → Value) (keeps : KeepsKinds own given value) where
  known : (x : Argument) → ArgumentFits own given params x → has_unknown_name params (passed_as value x) ≡ false
  known x h = ap is_none h.param_is

  right : (x : Argument) → ArgumentFits own given params x → has_wrong_kind params (passed_as value x) ≡ false
  right x h =
      ap (λ o. option_map_or (λ (k : Kind). not (same_kind k (kind_of (value x.value)))) o false) h.param_is
      ∙ ap not (kinds_same h.kind (kind_of (value x.value)) (keeps x.value h.kind h.value_is))

  none_repeats : (args : List Argument) → AreDistinct (map name_of_argument args) → repeats_a_name (map (passed_as value) args) ≡ false
  none_repeats [] h = refl
  none_repeats (x ∷ xs) h =
      or_from (list_any (is_passed_by x.name) (map (passed_as value) xs)) (repeats_a_name (map (passed_as value) xs))
      (any_mapped (passed_as value) (is_passed_by x.name) xs ∙ sym (any_mapped name_of_argument (same_name x.name) xs) ∙ h.0)
      (none_repeats xs h.1)

  gets_one : (args : List Argument) (p : Param) → IsGiven args p → gets_none (map (passed_as value) args) p ≡ false
  gets_one args p given_one =
      go (find (is_passed_by p.name) (map (passed_as value) args)) refl
    where
      go : (o : Option Passed) → find (is_passed_by p.name) (map (passed_as value) args) ≡ o → is_none (value_or (option_map value_passed o) p.value) ≡ false
      go (Some x) e = refl
      go None e =
          let none = sym (any_mapped (passed_as value) (is_passed_by p.name) args) ∙ none_passes (is_passed_by p.name) (map (passed_as value) args) e in
          not_none p.value (sym (ap (λ b. b || is_some p.value) none) ∙ given_one)

  none_of_args : (test : Passed → Bool) (args : List Argument) → ((x : Argument) → ArgumentFits own given params x → test (passed_as value x) ≡ false) → All (ArgumentFits own given params) args → list_any test (map (passed_as value) args) ≡ false
  none_of_args test args so fit = any_mapped (passed_as value) test args ∙ list_any_none (λ x. test (passed_as value x)) args (λ k d lt. so (get_or args k d) (fit k d lt))

pub fitting_is_good : FittingIsGood
fitting_is_good own given params args value keeps apart fits =
    let passed = map (passed_as value) args in
    let missing = list_any_none (gets_none passed) params (λ k d lt. gets_one own given params value keeps args (get_or params k d) (fits.whole k d lt)) in
    let kinds = none_of_args own given params value keeps (has_wrong_kind params) args (right own given params value keeps) fits.passed in
    or_from _ _ (none_of_args own given params value keeps (has_unknown_name params) args (known own given params value keeps) fits.passed)
    (or_from _ _ (none_repeats own given params value keeps args apart)
    (or_from _ _ missing (or_from _ _ kinds refl)))
