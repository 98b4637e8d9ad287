-- What is made of each number.
use Rattle.std.proofs.Common.{◌≡◌, ◌∙◌, sym, ap, ℕ, zero, suc, ◌+◌, List, [], ◌∷◌, ◌++◌, append-nil, map, flat_map, arith}
use Rattle.std.specs.List.{range_with_len}
use Rattle.std.proofs.lemmas.List.{map-append}
use Rattle.std.proofs.lemmas.List.Concat.{flat_map-append}

range_with_last : (a n : ℕ) → range_with_len a (suc n) ≡ range_with_len a n ++ (a + n) ∷ []
range_with_last a zero = let e : a ≡ a + 0 = omega arith in ap (λ k. k ∷ []) e
range_with_last a (suc n) =
    let e : (a + 1) + n ≡ a + suc n = omega arith in
    ap (λ l. a ∷ l) (range_with_last (a + 1) n ∙ ap (λ k. range_with_len (a + 1) n ++ k ∷ []) e)

range_of_one_more : (n : ℕ) → range_with_len 0 (n + 1) ≡ range_with_len 0 n ++ n ∷ []
range_of_one_more n =
    let e : n + 1 ≡ suc n = omega arith in
    let z : 0 + n ≡ n = omega arith in
    ap (range_with_len 0) e ∙ range_with_last 0 n ∙ ap (λ k. range_with_len 0 n ++ k ∷ []) z

-- that of one number more
pub mapped_one_more : {X : Type 0} (f : ℕ → X) (n : ℕ) (made new : List X) (x : X) → made ≡ map f (range_with_len 0 n) → new ≡ made ++ x ∷ [] → x ≡ f n
    → new ≡ map f (range_with_len 0 (n + 1))
mapped_one_more f n made new x m e is =
    e ∙ ap (λ l. l ++ x ∷ []) m ∙ ap (λ y. map f (range_with_len 0 n) ++ y ∷ []) is
    ∙ sym (map-append f (range_with_len 0 n) (n ∷ [])) ∙ ap (map f) (sym (range_of_one_more n))

-- those of one number more
pub lists_of_one_more : {X : Type 0} (f : ℕ → List X) (n : ℕ) (made new : List X) → made ≡ flat_map f (range_with_len 0 n) → new ≡ made ++ f n
    → new ≡ flat_map f (range_with_len 0 (n + 1))
lists_of_one_more f n made new m is =
    is ∙ ap (λ l. l ++ f n) m ∙ ap (λ l. flat_map f (range_with_len 0 n) ++ l) (sym (append-nil (f n)))
    ∙ sym (flat_map-append f (range_with_len 0 n) (n ∷ [])) ∙ ap (flat_map f) (sym (range_of_one_more n))
