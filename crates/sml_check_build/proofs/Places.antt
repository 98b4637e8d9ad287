-- The places of parameters in their lists, and what is there.
use Rattle.std.proofs.Common.{◌≡◌, ◌∙◌, sym, ap, refl, ℕ, suc, ◌+◌, Bool, true, false, cond, List, [], ◌∷◌, map, Option, None, Some, is_some, option_map, arith}
use Rattle.std.specs.Prelude.{find, slice_get}
use Rattle.std.proofs.Common.{inl, inr}
use Rattle.std.specs.List.{Contains, position, position_from}
use Rattle.std.proofs.lemmas.Iterator.Adapters.{position_from-zero}
use Rattle.sml_tree.specs.declared.file.Kind.{Kind}
use Rattle.sml_tree.specs.Syntax.{ArgData, lit, param, ItemData, class, ClassData, ActionData, ClassParamData, ActionParamData}
use Rattle.sml_check_faults.specs.Lookup.{is_class_param, is_action_param}
use Rattle.sml_check_faults.specs.Inside.{HasAction}
use Rattle.sml_check_faults.specs.ValueLaws.{ArgHasKind}
use Rattle.sml_check_faults.specs.Sound.{FileIsSound}
use Rattle.sml_check_faults.proofs.Pairs.{any_there, named_same, not_named, same_names}
use Rattle.sml_check_faults.proofs.Named.{finds}
use Rattle.sml_domain.specs.Fits.{param_kind, kind_at, operand_kind}
use Rattle.sml_check_build.specs.Numbers.{place_or}
use Rattle.sml_check_build.specs.Programs.{class_place, action_param_place, param_of, operand_numbered}
use Rattle.sml_check_build.specs.Rows.{class_param_row, action_param_row}
use Rattle.sml_check_build.proofs.Alike.{got_map}
use Rattle.sml_check_build.proofs.ClassRanges.{kinds_same}
use Rattle.sml_check_build.proofs.Numbered.{placed_any}

-- something at the first place at which a test passes
pub record PlacedAt {X : Type 0} (p : X → Bool) (xs : List X) (y : X) : Type 0 where
  pub at : ℕ
  pub is_first : position p xs ≡ Some at
  pub stands : slice_get xs at ≡ Some y

from_place : {X : Type 0} (p : X → Bool) (i : ℕ) (xs : List X) (y : X) → find p xs ≡ Some y → (k : ℕ) × (position_from p i xs ≡ Some (i + k)) × (slice_get xs k ≡ Some y)
from_place p i [] y e = cc
from_place {X} p i (x ∷ xs) y e = by (p x) e (from_place p (i + 1) xs y)
  where
    by : (b : Bool) → cond b (Some x) (find p xs) ≡ Some y → (find p xs ≡ Some y → (k : ℕ) × (position_from p (i + 1) xs ≡ Some (i + 1 + k)) × (slice_get xs k ≡ Some y)) →
        (k : ℕ) × (cond b (Some i) (position_from p (i + 1) xs) ≡ Some (i + k)) × (slice_get (x ∷ xs) k ≡ Some y)
    by true e next = (0, ap (λ k. Some k) (omega arith), e)
    by false e next = let more = next e in (suc more.0, more.1 ∙ ap (λ k. Some k) (omega arith), more.2)

-- what is found is at its place
pub place_of_found : {X : Type 0} (p : X → Bool) (xs : List X) (y : X) → find p xs ≡ Some y → PlacedAt p xs y
place_of_found p xs y e =
    let f = from_place p 0 xs y e in
    record { at = f.0; is_first = position_from-zero p xs ∙ f.1 ∙ ap (λ k. Some k) (omega arith); stands = f.2 }

module _ (file : List ItemData) (ok : FileIsSound file) (c : ClassData) (at : Contains file (class c)) where
  -- a parameter of the class
  pub class_param_at : (x : List ℕ) (p : ClassParamData) → Contains c.params p → p.name ≡ x → PlacedAt (is_class_param x) c.params p
  class_param_at x p p_at is =
      place_of_found (is_class_param x) c.params p
      (finds (is_class_param x) c.params p p_at (named_same x p.name (sym is)) (λ q before. not_named q.name x (λ e. ok.different.class_params c at q p before (e ∙ sym is))))

  pub own_kind : (x : List ℕ) (p : ClassParamData) → Contains c.params p → p.name ≡ x → kind_at (map class_param_row c.params) (place_or (class_place c x)) ≡ Some p.kind
  own_kind x p p_at is =
      let there = class_param_at x p p_at is in
      ap (λ o. kind_at (map class_param_row c.params) (place_or o)) there.is_first
      ∙ ap (option_map param_kind) (got_map class_param_row c.params there.at ∙ ap (option_map class_param_row) there.stands)

  module _ (a : ActionData) (has : HasAction file c a) where
    -- a parameter of the action
    pub action_param_at : (x : List ℕ) (p : ActionParamData) → Contains a.params p → p.name ≡ x → PlacedAt (is_action_param x) a.params p
    action_param_at x p p_at is =
        place_of_found (is_action_param x) a.params p
        (finds (is_action_param x) a.params p p_at (named_same x p.name (sym is)) (λ q before. not_named q.name x (λ e. ok.different.action_params c a has q p before (e ∙ sym is))))

    -- its name is that of none of the class
    not_own : (x : List ℕ) (p : ActionParamData) → Contains a.params p → p.name ≡ x → (o : Option ℕ) → class_place c x ≡ o → o ≡ None
    not_own x p p_at is None e = refl
    not_own x p p_at is (Some k) e =
        let q = any_there (is_class_param x) c.params (sym (placed_any (is_class_param x) c.params) ∙ ap is_some e) in
        absurd (ok.different.new_params c a has q.0 q.1 p p_at (sym (same_names x q.0.name q.2) ∙ sym is))

    -- the kind of a value
    pub value_kind : (v : ArgData) (k : Kind) → ArgHasKind c a v k → operand_kind (map class_param_row c.params) (map action_param_row a.params) (operand_numbered c a v) ≡ Some k
    value_kind (lit l) k kind = ap (λ j. Some j) (kinds_same l ∙ kind)
    value_kind (param x) k (inl p) =
        let there = class_param_at x p.0 p.1 p.2 in
        ap (λ o. operand_kind (map class_param_row c.params) (map action_param_row a.params) (param_of o (action_param_place a x))) there.is_first
        ∙ ap (option_map param_kind) (got_map class_param_row c.params there.at ∙ ap (option_map class_param_row) there.stands) ∙ ap (λ j. Some j) p.3
    value_kind (param x) k (inr p) =
        let there = action_param_at x p.0 p.1 p.2 in
        let none : class_place c x ≡ None = not_own x p.0 p.1 p.2 (class_place c x) refl in
        ap (λ o. operand_kind (map class_param_row c.params) (map action_param_row a.params) (param_of o (action_param_place a x))) none
        ∙ ap (λ o. kind_at (map action_param_row a.params) (place_or o)) there.is_first
        ∙ ap (option_map param_kind) (got_map action_param_row a.params there.at ∙ ap (option_map action_param_row) there.stands) ∙ ap (λ j. Some j) p.3
