-- Lists to which elements are added, and from which one is taken.
use Rattle.std.proofs.Common.{◌≡◌, ◌<◌, ◌≤◌, ◌+◌, ◌-◌, ◌≢◌, ℕ, zero, suc, List, [], ◌∷◌, ◌++◌, length, get_or, remove, refl, ap, sym, ◌∙◌, subst, arith, inl, inr, ⊎_elim, All, Contains}
use Rattle.std.specs.Prelude.{◌⊎◌}
use Rattle.std.proofs.lemmas.Bool.{cases_eq}
use Rattle.std.proofs.lemmas.List.Elements.{Contains-append_left, Contains-push, Contains-push_cases}
use Rattle.std.proofs.lemmas.List.{get_or_append_left, get_or_push, length_push}
use Rattle.std.proofs.lemmas.List.Edits.{length-remove, get_or-remove_below, get_or-remove_above}
use Rattle.sml_domain.specs.Domain.{Domain, Action}
use Rattle.sml_domain.specs.Lookups.{tree_of_block}
use Rattle.smi_reach.specs.Falling.{ends_of}
use Rattle.smi_reach.specs.Found.{AddsMissing, AddsEnds}

pub in_none : {X : Type 0} (x : X) → Contains [] x → ⊥
in_none x h = let lt = h.1 in omega arith

pub adds_none : (old : List ℕ) → AddsMissing old [] old
adds_none old = record { keeps = λ s h. h; adds = λ s h. absurd (in_none s h); only = λ s h. inl h }

-- one that is there already
pub adds_there : (old front l : List ℕ) (x : ℕ) → AddsMissing old front l → Contains l x → AddsMissing old (front ++ x ∷ []) l
adds_there old front l x k has = record {
  keeps = k.keeps;
  adds = λ s h. ⊎_elim (k.adds s) (λ e. subst (Contains l) e has) (Contains-push_cases front x s h);
  only = λ s h. ⊎_elim inl (λ g. inr (Contains-append_left front (x ∷ []) s g)) (k.only s h);
}

-- one that is not
pub adds_new : (old front l : List ℕ) (x : ℕ) → AddsMissing old front l → AddsMissing old (front ++ x ∷ []) (l ++ x ∷ [])
adds_new old front l x k = record {
  keeps = λ s h. Contains-append_left l (x ∷ []) s (k.keeps s h);
  adds = λ s h. ⊎_elim (λ g. Contains-append_left l (x ∷ []) s (k.adds s g)) (λ e. subst (Contains (l ++ x ∷ [])) e (Contains-push l x)) (Contains-push_cases front x s h);
  only = λ s h. ⊎_elim (λ g. ⊎_elim inl (λ f. inr (Contains-append_left front (x ∷ []) s f)) (k.only s g)) (λ e. inr (subst (Contains (front ++ x ∷ [])) e (Contains-push front x))) (Contains-push_cases l x s h);
}

-- no action
pub ends_none : (d : Domain) (old : List ℕ) → AddsEnds d [] old old
ends_none d old = record { keeps = λ s h. h; adds = λ s h. absurd (in_none h.0 h.1); only = λ s h. inl h }

-- one more action
pub ends_more : (d : Domain) (front : List Action) (a : Action) (old l new : List ℕ) → AddsEnds d front old l → AddsMissing l (ends_of (tree_of_block d a.block)) new → AddsEnds d (front ++ a ∷ []) old new
ends_more d front a old l new k m = record {
  keeps = λ s h. m.keeps s (k.keeps s h);
  adds = λ s h. ⊎_elim (λ g. m.keeps s (k.adds s (h.0, g, h.2))) (λ e. m.adds s (subst (λ y. Contains (ends_of (tree_of_block d y.block)) s) (sym e) h.2)) (Contains-push_cases front a h.0 h.1);
  only = λ s h. ⊎_elim (λ g. ⊎_elim inl (λ f. inr (f.0, Contains-append_left front (a ∷ []) f.0 f.1, f.2)) (k.only s g)) (λ e. inr (a, Contains-push front a, e)) (m.only s h);
}

pub order_of : (a b : ℕ) → a ≢ b → (a < b) ⊎ (b < a)
order_of zero zero n = absurd (n refl)
order_of zero (suc b) n = inl (omega arith)
order_of (suc a) zero n = inr (omega arith)
order_of (suc a) (suc b) n = ⊎_elim (λ l. inl (omega (arith, l))) (λ l. inr (omega (arith, l))) (order_of a b (λ e. n (ap suc e)))

-- what is still in a list from which the one at a place was taken
pub still_there : (xs : List ℕ) (j x : ℕ) → j < length xs → Contains xs x → Contains (remove xs j) x ⊎ (x ≡ get_or xs j x)
still_there xs j x lt h = ⊎_elim (λ e. inr (sym h.2 ∙ ap (λ k. get_or xs k x) e)) (λ n. ⊎_elim below above (order_of h.0 j n)) (cases_eq h.0 j)
  where
    long : length (remove xs j) + 1 ≡ length xs
    long = length-remove xs j lt

    below : h.0 < j → Contains (remove xs j) x ⊎ (x ≡ get_or xs j x)
    below l = let inside : h.0 < length (remove xs j) = omega (arith, long, lt, l) in inl (h.0, inside, get_or-remove_below xs j x h.0 l lt ∙ h.2)

    above : j < h.0 → Contains (remove xs j) x ⊎ (x ≡ get_or xs j x)
    above l =
        let within = h.1 in
        let inside : h.0 - 1 < length (remove xs j) = omega (arith, long, lt, l, within) in
        let past : j ≤ h.0 - 1 = omega (arith, l) in
        let back : (h.0 - 1) + 1 ≡ h.0 = omega (arith, l) in
        inl (h.0 - 1, inside, get_or-remove_above xs j x (h.0 - 1) past lt ∙ ap (λ k. get_or xs k x) back ∙ h.2)

-- one more place
pub places_more : (places : List ℕ) (n : ℕ) → ((i : ℕ) → i < n → Contains places i) → (i : ℕ) → i < n + 1 → Contains (places ++ n ∷ []) i
places_more places n all i lt = ⊎_elim (λ e. subst (Contains (places ++ n ∷ [])) (sym e) (Contains-push places n)) (λ d. Contains-append_left places (n ∷ []) i (all i (omega (arith, lt, d)))) (cases_eq i n)

pub places_within : (places : List ℕ) (n : ℕ) → All (λ i. i < n) places → All (λ i. i < n + 1) (places ++ n ∷ [])
places_within places n all k d lt =
    let long = length_push places n in
    ⊎_elim (λ e. subst (λ i. i < n + 1) (sym (get_or_push places n d k (sym e))) (omega arith))
    (λ o. let inside : k < length places = omega (arith, long, lt, o) in let was = all k d inside in subst (λ i. i < n + 1) (sym (get_or_append_left places (n ∷ []) d k inside)) (omega (arith, was)))
    (cases_eq k (length places))
