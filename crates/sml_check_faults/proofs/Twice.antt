-- Tests that need two elements, or two lists.
use Rattle.std.proofs.Common.{◌≡◌, ◌∙◌, sym, ap, subst, refl, ℕ, suc, ◌<◌, ◌≤◌, ◌+◌, Bool, true, false, ◌&&◌, List, [], ◌∷◌, length, get_or, map, drop, add-one, drop-cons}
use Rattle.std.proofs.lemmas.List.{drop_all}
use Rattle.std.specs.List.{list_any}
use Rattle.sml_tree.specs.Syntax.{ActionParamData}
use Rattle.sml_check_faults.specs.Heads.{has_two, same_param, same_params}

-- whether one more, or two more, pass a test
abbrev pub two_more : {X : Type 0} → Bool → (X → Bool) → List X → Bool
two_more true p xs = list_any p xs
two_more false p xs = has_two p xs

-- none of no elements passes
pub none_more : {X : Type 0} (seen : Bool) (p : X → Bool) → false ≡ two_more seen p []
none_more true p = refl
none_more false p = refl

-- what is left of two lists of one length
pub record Pairs {X : Type 0} (g : X → ActionParamData) (xs ys : List X) (k : ℕ) (r : Bool) : Type 0 where
  pub even : length xs ≡ length ys
  pub is : same_params (map g (drop k xs)) (map g (drop k ys)) ≡ r

module _ {X : Type 0} (g : X → ActionParamData) (xs ys : List X) (k : ℕ) (r : Bool) (x y : X) (h : Pairs g xs ys k r) (within : k < length xs) (is : x ≡ get_or xs k x) (at : y ≡ get_or ys k y) where
  inside : k < length ys
  inside = subst (λ n. k < n) h.even within

  left_of : (zs : List X) (z : X) → k < length zs → z ≡ get_or zs k z → map g (drop k zs) ≡ g z ∷ map g (drop (k + 1) zs)
  left_of zs z in_zs z_is = ap (map g) (drop-cons zs k z in_zs ∙ ap (λ v. v ∷ drop (suc k) zs) (sym z_is) ∙ ap (λ n. z ∷ drop n zs) (sym (add-one k)))

  front : same_params (map g (drop k xs)) (map g (drop k ys)) ≡ (same_param (g x) (g y) && same_params (map g (drop (k + 1) xs)) (map g (drop (k + 1) ys)))
  front = ap (λ ps. same_params ps (map g (drop k ys))) (left_of xs x within is) ∙ ap (same_params (g x ∷ map g (drop (k + 1) xs))) (left_of ys y inside at)

  pub pairs_more : true ≡ same_param (g x) (g y) → Pairs g xs ys (k + 1) r
  pairs_more same = record { even = h.even; is = ap (λ b. b && same_params (map g (drop (k + 1) xs)) (map g (drop (k + 1) ys))) same ∙ sym front ∙ h.is }

  pub pairs_here : false ≡ same_param (g x) (g y) → false ≡ r
  pairs_here other = ap (λ b. b && same_params (map g (drop (k + 1) xs)) (map g (drop (k + 1) ys))) other ∙ sym front ∙ h.is

-- nothing is left
pub pairs_none : {X : Type 0} (g : X → ActionParamData) (xs ys : List X) (k : ℕ) (r : Bool) → Pairs g xs ys k r → length xs ≤ k → true ≡ r
pairs_none g xs ys k r h over =
    sym (ap (λ zs. same_params (map g zs) (map g (drop k ys))) (drop_all k xs over) ∙ ap (λ zs. same_params [] (map g zs)) (drop_all k ys (subst (λ n. n ≤ k) h.even over))) ∙ h.is

and_false : (b c : Bool) → false ≡ c → false ≡ (b && c)
and_false true c is = is
and_false false c is = refl

-- lists of two lengths differ
pub uneven : {X : Type 0} (g : X → ActionParamData) (xs ys : List X) → (length xs ≡ length ys → ⊥) → false ≡ same_params (map g xs) (map g ys)
uneven g [] [] other = absurd (other refl)
uneven g [] (y ∷ ys) other = refl
uneven g (x ∷ xs) [] other = refl
uneven g (x ∷ xs) (y ∷ ys) other = and_false (same_param (g x) (g y)) (same_params (map g xs) (map g ys)) (uneven g xs ys (λ e. other (ap suc e)))
