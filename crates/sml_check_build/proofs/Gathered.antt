-- What is gathered from a list, part by part.
use Rattle.std.proofs.Common.{◌≡◌, ◌∙◌, refl, sym, ap, subst, ℕ, suc, ◌<◌, ◌≤◌, ◌+◌, List, [], ◌∷◌, ◌++◌, length, map, get_or, drop, add-one, drop-cons, append_assoc, append-nil}
use Rattle.sml_check_faults.proofs.Rests.{Rest, rest_none}

-- one element more, which changes what was gathered
pub moves_of : {X R : Type 0} (F G : List X → R) (xs ys : List X) (k : ℕ) (r : R) (x : X) → Rest F xs k r → ys ≡ xs → k < length ys → x ≡ get_or ys k x →
    ((zs : List X) → F (x ∷ zs) ≡ G zs) → Rest G xs (k + 1) r
moves_of F G xs ys k r x h same within is next =
    let inside : k < length xs = subst (λ zs. k < length zs) same within in
    let found = subst (λ zs. x ≡ get_or zs k x) same is in
    let front : drop k xs ≡ x ∷ drop (k + 1) xs = drop-cons xs k x inside ∙ ap (λ y. y ∷ drop (suc k) xs) (sym found) ∙ ap (λ n. x ∷ drop n xs) (sym (add-one k)) in
    record { is = sym (next (drop (k + 1) xs)) ∙ sym (ap F front) ∙ h.is }

-- rows so far, and those that are to come
abbrev pub Gathers : {X R : Type 0} → (List X → List R) → List R → List X → ℕ → List R → Type 0
Gathers P now xs k r = Rest (λ zs. now ++ P zs) xs k r

-- what one element more adds
pub gathered : {X R : Type 0} (P : List X → List R) (own now next : List R) (xs ys : List X) (k : ℕ) (r : List R) (x : X) → Gathers P now xs k r → ys ≡ xs → k < length ys → x ≡ get_or ys k x →
    ((zs : List X) → P (x ∷ zs) ≡ own ++ P zs) → next ≡ now ++ own → Gathers P next xs (k + 1) r
gathered P own now next xs ys k r x h same within is splits adds =
    moves_of (λ zs. now ++ P zs) (λ zs. next ++ P zs) xs ys k r x h same within is
    (λ zs. ap (λ l. now ++ l) (splits zs) ∙ sym (append_assoc now own (P zs)) ∙ ap (λ l. l ++ P zs) (sym adds))

-- all rows are there
pub gathered_all : {X R : Type 0} (P : List X → List R) (now : List R) (xs : List X) (k : ℕ) (r : List R) → Gathers P now xs k r → length xs ≤ k → P [] ≡ [] → now ≡ r
gathered_all P now xs k r h over none = sym (append-nil now) ∙ ap (λ l. now ++ l) (sym none) ∙ rest_none (λ zs. now ++ P zs) xs k r h over

-- one row more, which is pushed
pub pushed : {X R : Type 0} (of : X → R) (now next : List R) (xs ys : List X) (k : ℕ) (r : List R) (x : X) (y : R) → Gathers (map of) now xs k r → ys ≡ xs → k < length ys → x ≡ get_or ys k x →
    next ≡ now ++ y ∷ [] → y ≡ of x → Gathers (map of) next xs (k + 1) r
pushed of now next xs ys k r x y h same within is adds row =
    gathered (map of) (of x ∷ []) now next xs ys k r x h same within is (λ zs. refl) (adds ∙ ap (λ z. now ++ z ∷ []) row)
