-- What is written of each element and its number.
use Rattle.std.proofs.Common.{◌≡◌, ◌∙◌, sym, ap, refl, subst, ℕ, zero, suc, ◌+◌, ◌<◌, List, [], ◌∷◌, ◌++◌, append_assoc, append-nil, length, length-append, take, get_or, map, flat_map, All, arith}
use Rattle.std.proofs.lemmas.List.{map-append, take_more}
use Rattle.std.proofs.lemmas.List.Elements.{All-push}
use Rattle.std.proofs.lemmas.List.Concat.{flat_map-append}
use Rattle.smi_outset_text.specs.OutsetText.{numbered}

module _ {X : Type 0} (f : ℕ → X → List ℕ) where
  numbered_append : (n : ℕ) (xs ys : List X) → numbered f n (xs ++ ys) ≡ numbered f n xs ++ numbered f (n + length xs) ys
  numbered_append n [] ys = let e : n ≡ n + 0 = omega arith in ap (λ k. numbered f k ys) e
  numbered_append n (x ∷ xs) ys =
      let e : suc n + length xs ≡ n + suc (length xs) = omega arith in
      ap (λ l. f n x ++ l) (numbered_append (suc n) xs ys ∙ ap (λ k. numbered f (suc n) xs ++ numbered f k ys) e)
      ∙ sym (append_assoc (f n x) (numbered f (suc n) xs) (numbered f (n + suc (length xs)) ys))

  pub numbered_push : (n k : ℕ) (xs : List X) (x : X) → n + length xs ≡ k → numbered f n (xs ++ x ∷ []) ≡ numbered f n xs ++ f k x
  numbered_push n k xs x e =
      numbered_append n xs (x ∷ []) ∙ ap (λ l. numbered f n xs ++ l) (append-nil (f (n + length xs) x) ∙ ap (λ j. f j x) e)

  length_take : (xs : List X) (k : ℕ) → k < length xs → length (take k xs) ≡ k
  length_take xs zero lt = refl
  length_take [] (suc k) lt = absurd (omega (arith, lt))
  length_take (x ∷ xs) (suc k) lt = ap suc (length_take xs k (omega (arith, lt)))

  pub numbered_more : (xs : List X) (k : ℕ) (x : X) → k < length xs → x ≡ get_or xs k x
      → numbered f 0 (take k xs) ++ f k x ≡ numbered f 0 (take (k + 1) xs)
  numbered_more xs k x lt is =
      sym (numbered_push 0 k (take k xs) x (let z : 0 + length (take k xs) ≡ length (take k xs) = omega arith in z ∙ length_take xs k lt))
      ∙ ap (numbered f 0) (ap (λ y. take k xs ++ y ∷ []) is ∙ sym (take_more xs k x lt))

-- what was added is that of one element more
pub added_more : {X : Type 0} (f : ℕ → X → List ℕ) (xs : List X) (k : ℕ) (x : X) (first old new line : List ℕ) → new ≡ old ++ line
    → old ≡ first ++ numbered f 0 (take k xs) → line ≡ f k x → k < length xs → x ≡ get_or xs k x → new ≡ first ++ numbered f 0 (take (k + 1) xs)
added_more f xs k x first old new line e o l lt is =
    e ∙ ap (λ t. t ++ line) o ∙ append_assoc first (numbered f 0 (take k xs)) line
    ∙ ap (λ t. first ++ (numbered f 0 (take k xs) ++ t)) l ∙ ap (λ t. first ++ t) (numbered_more f xs k x lt is)

pub numbered_map : {X Y : Type 0} (f : ℕ → Y → List ℕ) (g : X → Y) (n : ℕ) (xs : List X) → numbered (λ k x. f k (g x)) n xs ≡ numbered f n (map g xs)
numbered_map f g n [] = refl
numbered_map f g n (x ∷ xs) = ap (λ l. f n (g x) ++ l) (numbered_map f g (suc n) xs)

-- the texts of one element more
pub flat_more : {X : Type 0} (f : X → List ℕ) (xs : List X) (k : ℕ) (x : X) → k < length xs → x ≡ get_or xs k x
    → flat_map f (take k xs) ++ f x ≡ flat_map f (take (k + 1) xs)
flat_more f xs k x lt is =
    ap (λ l. flat_map f (take k xs) ++ l) (sym (append-nil (f x))) ∙ sym (flat_map-append f (take k xs) (x ∷ []))
    ∙ ap (flat_map f) (ap (λ y. take k xs ++ y ∷ []) is ∙ sym (take_more xs k x lt))

-- what was read is that of one element more
pub numbered_read : {X : Type 0} (f : ℕ → X → List ℕ) (xs ys : List X) (k : ℕ) (x : X) (text rest more : List ℕ) → text ≡ numbered f 0 xs ++ rest
    → rest ≡ f k x ++ more → length xs ≡ k → ys ≡ xs ++ x ∷ [] → text ≡ numbered f 0 ys ++ more
numbered_read f xs ys k x text rest more t r e is =
    let z : 0 + length xs ≡ length xs = omega arith in
    t ∙ ap (λ l. numbered f 0 xs ++ l) r ∙ sym (append_assoc (numbered f 0 xs) (f k x) more)
    ∙ ap (λ l. l ++ more) (sym (numbered_push f 0 k xs x (z ∙ e)) ∙ ap (numbered f 0) (sym is))

-- what is so of each is so of one more
own_push : {X : Type 0} (P : ℕ → X → Type 0) (xs : List X) (x : X) → ((k : ℕ) (y : X) → k < length xs → P k (get_or xs k y)) → P (length xs) x
    → (k : ℕ) (y : X) → k < length (xs ++ x ∷ []) → P k (get_or (xs ++ x ∷ []) k y)
own_push P [] x h p zero y lt = p
own_push P [] x h p (suc k) y lt = absurd (omega (arith, lt))
own_push P (z ∷ xs) x h p zero y lt = h zero y (omega arith)
own_push P (z ∷ xs) x h p (suc k) y lt =
    own_push (λ j. P (suc j)) xs x (λ j w l. h (suc j) w (omega (arith, l))) p k y (omega (arith, lt))

pub each_push : {X : Type 0} (P : ℕ → X → Type 0) (xs ys : List X) (k : ℕ) (x : X) → ((j : ℕ) (y : X) → j < length xs → P j (get_or xs j y)) → P k x
    → length xs ≡ k → ys ≡ xs ++ x ∷ [] → (j : ℕ) (y : X) → j < length ys → P j (get_or ys j y)
each_push {X} P xs ys k x h p e is =
    subst (λ (zs : List X). (j : ℕ) (y : X) → j < length zs → P j (get_or zs j y)) (sym is) (own_push P xs x h (subst (λ i. P i x) (sym e) p))

pub count_push : {X : Type 0} (xs ys : List X) (k : ℕ) (x : X) → length xs ≡ k → ys ≡ xs ++ x ∷ [] → length ys ≡ k + 1
count_push xs ys k x e is = let l = ap length is ∙ length-append xs (x ∷ []) in omega (arith, l, e)

pub flat_read : {X : Type 0} (f : X → List ℕ) (xs ys : List X) (x : X) (text rest more : List ℕ) → text ≡ flat_map f xs ++ rest → rest ≡ f x ++ more
    → ys ≡ xs ++ x ∷ [] → text ≡ flat_map f ys ++ more
flat_read f xs ys x text rest more t r is =
    t ∙ ap (λ l. flat_map f xs ++ l) r ∙ sym (append_assoc (flat_map f xs) (f x) more)
    ∙ ap (λ l. l ++ more) (ap (λ l. flat_map f xs ++ l) (sym (append-nil (f x))) ∙ sym (flat_map-append f xs (x ∷ [])) ∙ ap (flat_map f) (sym is))

pub all_push : {X : Type 0} (P : X → Type 0) (xs ys : List X) (x : X) → All P xs → P x → ys ≡ xs ++ x ∷ [] → All P ys
all_push P xs ys x h p is = subst (All P) (sym is) (All-push P xs x h p)

-- the same of what is taken
pub map_push : {X : Type 0} (g : X → ℕ) (xs ys : List X) (x : X) (ns : List ℕ) (k n : ℕ) → map g xs ≡ take k ns → ys ≡ xs ++ x ∷ [] → g x ≡ n
    → k < length ns → n ≡ get_or ns k n → map g ys ≡ take (k + 1) ns
map_push g xs ys x ns k n e is v lt at =
    ap (map g) is ∙ map-append g xs (x ∷ []) ∙ ap (λ l. l ++ g x ∷ []) e
    ∙ ap (λ m. take k ns ++ m ∷ []) (v ∙ at) ∙ sym (take_more ns k n lt)
