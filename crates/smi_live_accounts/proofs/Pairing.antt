-- What was told last to each name, beside the request at its place.
use Rattle.std.proofs.Common.{◌≡◌, ◌≢◌, ◌∙◌, sym, ap, refl, subst, arith, ℕ, zero, suc, ◌<◌, ◌+◌, Bool, true, false, List, [], ◌∷◌, ◌++◌, ◌⊎◌, inl, inr, length, length-append, length-set, Option, Some}
use Rattle.std.specs.Prelude.{◌==◌, slice_get, slice_set}
use Rattle.std.proofs.lemmas.Bool.{eqb-true, eq-eqb}
use Rattle.std.proofs.lemmas.Option.{slice_get_within}
use Rattle.sml_domain.specs.Domain.{Domain}
use Rattle.smi_live_once.specs.Tables.{OnceTold}
use Rattle.smi_request_fates.specs.Kept.{Asked}
use Rattle.smi_live_accounts.specs.Accounts.{ArePaired, IsAnswerTo}

-- ---- one more at the end

at_end : {A : Type 0} (xs : List A) (x y : A) (k : ℕ) → slice_get (xs ++ x ∷ []) k ≡ Some y → (slice_get xs k ≡ Some y) ⊎ ((k ≡ length xs) × (x ≡ y))
at_end [] x y zero e = inr (refl, cc e)
at_end [] x y (suc k) e = absurd (cc e)
at_end (w ∷ xs) x y zero e = inl e
at_end (w ∷ xs) x y (suc k) e = go (at_end xs x y k e)
  where
    go : (slice_get xs k ≡ Some y) ⊎ ((k ≡ length xs) × (x ≡ y)) → (slice_get (w ∷ xs) (suc k) ≡ Some y) ⊎ ((suc k ≡ length (w ∷ xs)) × (x ≡ y))
    go (inl h) = inl h
    go (inr h) = inr (ap suc h.0, h.1)

apart : (p l n : ℕ) → p < l → p ≡ n → n ≡ l → ⊥
apart p l n h e f = omega (arith, h, e, f)

pub paired_more : (d : Domain) (told : List OnceTold) (asked : List Asked) (x : OnceTold) (a : Asked) → ArePaired d told asked → IsAnswerTo d a x.answer → ArePaired d (told ++ x ∷ []) (asked ++ a ∷ [])
paired_more d told asked x a h new = record {
  count = length-append asked (a ∷ []) ∙ ap (λ n. n + 1) h.count ∙ sym (length-append told (x ∷ []));
  each = λ p t b e f. go p t b (at_end told x t p e) (at_end asked a b p f);
}
  where
    go : (p : ℕ) (t : OnceTold) (b : Asked) → (slice_get told p ≡ Some t) ⊎ ((p ≡ length told) × (x ≡ t)) → (slice_get asked p ≡ Some b) ⊎ ((p ≡ length asked) × (a ≡ b)) → IsAnswerTo d b t.answer
    go p t b (inl e) (inl f) = h.each p t b e f
    go p t b (inl e) (inr f) = absurd (apart p (length told) (length asked) (slice_get_within told p t e) f.0 h.count)
    go p t b (inr e) (inl f) = absurd (apart p (length asked) (length told) (slice_get_within asked p b f) e.0 (sym h.count))
    go p t b (inr e) (inr f) = subst (λ (c : Asked). IsAnswerTo d c t.answer) f.1 (subst (λ (u : OnceTold). IsAnswerTo d a u.answer) e.1 new)

-- ---- one in the place of another

set_there : {A : Type 0} (xs : List A) (i : ℕ) (x : A) → i < length xs → slice_get (slice_set xs i x) i ≡ Some x
set_there [] i x h = absurd (omega (arith, h))
set_there (w ∷ xs) zero x h = refl
set_there (w ∷ xs) (suc i) x h = set_there xs i x (omega (arith, h))

set_other : {A : Type 0} (xs : List A) (i j : ℕ) (x : A) → j ≢ i → slice_get (slice_set xs i x) j ≡ slice_get xs j
set_other [] i j x n = refl
set_other (w ∷ xs) zero zero x n = absurd (n refl)
set_other (w ∷ xs) zero (suc j) x n = refl
set_other (w ∷ xs) (suc i) zero x n = refl
set_other (w ∷ xs) (suc i) (suc j) x n = set_other xs i j x (λ e. n (ap suc e))

differ : (q p : ℕ) → (q == p) ≡ false → q ≢ p
differ q p is e = absurd (cc (sym is ∙ eq-eqb q p e))

pub paired_instead : (d : Domain) (told : List OnceTold) (asked : List Asked) (p : ℕ) (x : OnceTold) (a : Asked) → p < length told → ArePaired d told asked → IsAnswerTo d a x.answer → ArePaired d (slice_set told p x) (slice_set asked p a)
paired_instead d told asked p x a within h new = record {
  count = length-set asked p a ∙ h.count ∙ sym (length-set told p x);
  each = λ q t b e f. go q t b e f (q == p) refl;
}
  where
    inside : p < length asked
    inside = subst (λ n. p < n) (sym h.count) within

    go : (q : ℕ) (t : OnceTold) (b : Asked) → slice_get (slice_set told p x) q ≡ Some t → slice_get (slice_set asked p a) q ≡ Some b → (c : Bool) → (q == p) ≡ c → IsAnswerTo d b t.answer
    go q t b e f true is =
        let same : q ≡ p = eqb-true q p is in
        let one : ◌≡◌ {A = Option OnceTold} (Some x) (Some t) = sym (set_there told p x within) ∙ sym (ap (slice_get (slice_set told p x)) same) ∙ e in
        let two : ◌≡◌ {A = Option Asked} (Some a) (Some b) = sym (set_there asked p a inside) ∙ sym (ap (slice_get (slice_set asked p a)) same) ∙ f in
        let u : x ≡ t = cc one in
        let v : a ≡ b = cc two in
        subst (λ (c : Asked). IsAnswerTo d c t.answer) v (subst (λ (w : OnceTold). IsAnswerTo d a w.answer) u new)
    go q t b e f false is =
        let n = differ q p is in
        h.each q t b (sym (set_other told p q x n) ∙ e) (sym (set_other asked p q a n) ∙ f)
