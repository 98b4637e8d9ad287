-- Rows that are made one after another.
use Rattle.std.proofs.Common.{◌≡◌, ◌<◌, ◌≤◌, ◌+◌, ℕ, zero, suc, List, [], ◌∷◌, ◌++◌, Option, Some, None, length, slice_get, get_or, map, refl, sym, ap, ◌∙◌, subst, arith, length-append, ⊎_elim}
use Rattle.std.specs.Option.{option_map_or}
use Rattle.std.proofs.lemmas.Option.{slice_get_within, slice_get-get_or, slice_get_past, get_or_from_slice_get}
use Rattle.std.proofs.lemmas.List.{get_or_default}
use Rattle.std.proofs.lemmas.Bool.{cases_lt}
use Rattle.std.proofs.Math.ListN.{get_or-append}
use Rattle.std.proofs.Math.Seq.{get_or-append_seam}
use Rattle.sml_outset.specs.Rows.{RowsAre}

-- two lists that are made alike, element by element, are one
pub map_same : {X Y Z : Type 0} (f : X → Z) (g : Y → Z) (xs : List X) (ys : List Y) → length xs ≡ length ys
    → ((k : ℕ) (x : X) (y : Y) → k < length xs → f (get_or xs k x) ≡ g (get_or ys k y)) → map f xs ≡ map g ys
map_same f g [] [] l h = refl
map_same f g [] (y ∷ ys) l h = absurd (omega (arith, l))
map_same f g (x ∷ xs) [] l h = absurd (omega (arith, l))
map_same f g (x ∷ xs) (y ∷ ys) l h =
    let rest : map f xs ≡ map g ys = map_same f g xs ys (omega (arith, l)) (λ k a b lt. h (suc k) a b (omega (arith, lt))) in
    ap (λ zs. f x ∷ zs) rest ∙ ap (λ z. z ∷ map g ys) (h 0 x y (omega arith))

-- the row at a number
pub row_is : {X : Type 0} (P : ℕ → X → Type 0) (n : ℕ) (rows : List X) (k : ℕ) (r : X) → RowsAre P n rows → k < n → slice_get rows k ≡ Some (get_or rows k r)
row_is P n rows k r are lt = slice_get-get_or rows k r (omega (arith, lt, are.count))

pub no_row : {X : Type 0} (P : ℕ → X → Type 0) (n : ℕ) (rows : List X) (k : ℕ) → RowsAre P n rows → n ≤ k → slice_get rows k ≡ None
no_row P n rows k are le = slice_get_past rows k (omega (arith, le, are.count))

-- what is there is not None
pub is_there : {X : Type 0} (xs : List X) (k : ℕ) → k < length xs → slice_get xs k ≡ None → ⊥
is_there [] k lt e = absurd (omega (arith, lt))
is_there (x ∷ xs) zero lt e = absurd (cc e)
is_there (x ∷ xs) (suc k) lt e = is_there xs k (omega (arith, lt)) e

-- ---- rows that are made one after another

pub no_rows : {X : Type 0} (P : ℕ → X → Type 0) → RowsAre P 0 []
no_rows P = record { count = refl; each = λ k r lt. absurd (omega (arith, lt)) }

-- one more
pub more_rows : {X : Type 0} (P : ℕ → X → Type 0) (n : ℕ) (rows : List X) (x : X) → RowsAre P n rows → P n x → RowsAre P (n + 1) (rows ++ x ∷ [])
more_rows {X = X} P n rows x are h = record {
  count = length-append rows (x ∷ []) ∙ ap (λ l. l + 1) are.count;
  each = λ k r lt. ⊎_elim
      (λ (less : k < length rows). subst (P k) (sym (get_or-append rows (x ∷ []) r k less)) (are.each k r (omega (arith, less, are.count))))
      (λ (le : length rows ≤ k).
      let is : k ≡ n = omega (arith, le, lt, are.count) in
      let at : length rows ≡ k = omega (arith, le, lt, are.count) in
      subst (P k) (sym (ap (λ i. get_or (rows ++ x ∷ []) i r) (sym at) ∙ get_or-append_seam rows x [] r))
      (subst (λ i. P i x) (sym is) h))
      (cases_lt k (length rows));
}

-- the element that was read, by another default
pub read_as : {X : Type 0} (xs : List X) (i : ℕ) (x s : X) → i < length xs → x ≡ get_or xs i x → get_or xs i s ≡ x
read_as xs i x s lt is = get_or_default xs i s x lt ∙ sym is
