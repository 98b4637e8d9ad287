-- What is made of each number, and of each of some.
use Rattle.std.proofs.Common.{◌≡◌, ◌∙◌, sym, ap, subst, refl, ℕ, zero, suc, ◌+◌, ◌<◌, List, [], ◌∷◌, ◌++◌, Option, None, Some, append_assoc, append-nil, get_or, length, map, flat_map, take, arith}
use Rattle.std.specs.List.{cons_option, filter_map, range_with_len}
use Rattle.std.specs.Option.{option_to_list}
use Rattle.std.proofs.lemmas.List.{map-append, take_more}
use Rattle.std.proofs.lemmas.List.Concat.{flat_map-append}

range_with_last : (a n : ℕ) → range_with_len a (suc n) ≡ range_with_len a n ++ (a + n) ∷ []
range_with_last a zero = let e : a ≡ a + 0 = omega arith in ap (λ k. k ∷ []) e
range_with_last a (suc n) =
    let e : (a + 1) + n ≡ a + suc n = omega arith in
    ap (λ l. a ∷ l) (range_with_last (a + 1) n ∙ ap (λ k. range_with_len (a + 1) n ++ k ∷ []) e)

range_of_one_more : (n : ℕ) → range_with_len 0 (n + 1) ≡ range_with_len 0 n ++ n ∷ []
range_of_one_more n =
    let e : n + 1 ≡ suc n = omega arith in
    let z : 0 + n ≡ n = omega arith in
    ap (range_with_len 0) e ∙ range_with_last 0 n ∙ ap (λ k. range_with_len 0 n ++ k ∷ []) z

-- that of one number more
pub mapped_one_more : {X : Type 0} (f : ℕ → X) (n : ℕ) (made new : List X) (x : X)
    → made ≡ map f (range_with_len 0 n) → new ≡ made ++ x ∷ [] → x ≡ f n → new ≡ map f (range_with_len 0 (n + 1))
mapped_one_more f n made new x m e is =
    e ∙ ap (λ l. l ++ x ∷ []) m ∙ ap (λ y. map f (range_with_len 0 n) ++ y ∷ []) is
    ∙ sym (map-append f (range_with_len 0 n) (n ∷ [])) ∙ ap (map f) (sym (range_of_one_more n))

-- those of one number more, after others
pub lists_added : {X : Type 0} (f : ℕ → List X) (n k : ℕ) (first made new : List X)
    → made ≡ first ++ flat_map f (range_with_len 0 n) → new ≡ made ++ f k → k ≡ n
    → new ≡ first ++ flat_map f (range_with_len 0 (n + 1))
lists_added f n k first made new m is e =
    is ∙ ap (λ j. made ++ f j) e ∙ ap (λ l. l ++ f n) m ∙ append_assoc first (flat_map f (range_with_len 0 n)) (f n)
    ∙ ap (λ l. first ++ l) (ap (λ l. flat_map f (range_with_len 0 n) ++ l) (sym (append-nil (f n)))
    ∙ sym (flat_map-append f (range_with_len 0 n) (n ∷ [])) ∙ ap (flat_map f) (sym (range_of_one_more n)))

-- ---- what is made of some, and of others is not

consed : {X : Type 0} (m : Option X) (xs : List X) → cons_option m xs ≡ option_to_list m ++ xs
consed None xs = refl
consed (Some x) xs = refl

kept-append : {X Y : Type 0} (f : X → Option Y) (xs ys : List X)
    → filter_map f (xs ++ ys) ≡ filter_map f xs ++ filter_map f ys
kept-append f [] ys = refl
kept-append f (x ∷ xs) ys =
    ap (cons_option (f x)) (kept-append f xs ys) ∙ consed (f x) (filter_map f xs ++ filter_map f ys)
    ∙ sym (append_assoc (option_to_list (f x)) (filter_map f xs) (filter_map f ys))
    ∙ ap (λ l. l ++ filter_map f ys) (sym (consed (f x) (filter_map f xs)))

kept_of_one : {X Y : Type 0} (f : X → Option Y) (x : X) → filter_map f (x ∷ []) ≡ option_to_list (f x)
kept_of_one f x = consed (f x) [] ∙ append-nil (option_to_list (f x))

kept_push : {X Y : Type 0} (f : X → Option Y) (xs : List X) (x : X)
    → filter_map f (xs ++ x ∷ []) ≡ filter_map f xs ++ option_to_list (f x)
kept_push f xs x = kept-append f xs (x ∷ []) ∙ ap (λ l. filter_map f xs ++ l) (kept_of_one f x)

-- that of one number more, if there is any, after others
pub kept_added : {X : Type 0} (f : ℕ → Option X) (n k : ℕ) (first made new : List X)
    → made ≡ first ++ filter_map f (range_with_len 0 n)
    → new ≡ made ++ option_to_list (f k) → k ≡ n → new ≡ first ++ filter_map f (range_with_len 0 (n + 1))
kept_added f n k first made new m is e =
    is ∙ ap (λ j. made ++ option_to_list (f j)) e ∙ ap (λ l. l ++ option_to_list (f n)) m
    ∙ append_assoc first (filter_map f (range_with_len 0 n)) (option_to_list (f n))
    ∙ ap (λ l. first ++ l) (sym (kept_push f (range_with_len 0 n) n) ∙ ap (filter_map f) (sym (range_of_one_more n)))

-- that of one element more, if there is any, after others
pub kept_more : {X Y : Type 0} (f : X → Option Y) (xs : List X) (k : ℕ) (x : X) (first made new : List Y)
    → made ≡ first ++ filter_map f (take k xs)
    → new ≡ made ++ option_to_list (f x) → k < length xs → x ≡ get_or xs k x
    → new ≡ first ++ filter_map f (take (k + 1) xs)
kept_more f xs k x first made new m is lt at =
    is ∙ ap (λ l. l ++ option_to_list (f x)) m ∙ append_assoc first (filter_map f (take k xs)) (option_to_list (f x))
    ∙ ap (λ l. first ++ l) (sym (kept_push f (take k xs) x)
    ∙ ap (filter_map f) (ap (λ y. take k xs ++ y ∷ []) at ∙ sym (take_more xs k x lt)))

-- so, where the list is read as another one
pub kept_read : {X Y : Type 0} (f : X → Option Y) (ys xs : List X) (k : ℕ) (x : X) (first made new : List Y)
    → ys ≡ xs → made ≡ first ++ filter_map f (take k xs)
    → new ≡ made ++ option_to_list (f x) → k < length ys → x ≡ get_or ys k x
    → new ≡ first ++ filter_map f (take (k + 1) xs)
kept_read f ys xs k x first made new e m is lt at =
    kept_more f xs k x first made new m is (subst (λ l. k < length l) e lt) (at ∙ ap (λ l. get_or l k x) e)

-- the texts of one element more
pub flat_more : {X : Type 0} (f : X → List ℕ) (xs : List X) (k : ℕ) (x : X) → k < length xs → x ≡ get_or xs k x
    → flat_map f (take k xs) ++ f x ≡ flat_map f (take (k + 1) xs)
flat_more f xs k x lt is =
    ap (λ l. flat_map f (take k xs) ++ l) (sym (append-nil (f x))) ∙ sym (flat_map-append f (take k xs) (x ∷ []))
    ∙ ap (flat_map f) (ap (λ y. take k xs ++ y ∷ []) is ∙ sym (take_more xs k x lt))
