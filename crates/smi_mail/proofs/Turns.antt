-- One turn of a loop over lists.
use Rattle.std.proofs.Common.{◌≡◌, ◌≢◌, ◌<◌, ◌≤◌, ◌+◌, ℕ, zero, suc, List, [], ◌∷◌, ◌++◌, length, map, set, get_or, take, drop, Some, refl, sym, ap, ◌∙◌, arith, length-set, append_assoc, ⊎_elim}
use Rattle.std.specs.Prelude.{slice_get}
use Rattle.std.proofs.lemmas.List.{take_more, drop_more, get_or_at, set_at, map-append, length-map, length-take-le}
use Rattle.std.proofs.lemmas.Bool.{cases_eq}
use Rattle.std.proofs.lemmas.Option.{slice_get_read}

-- the next element is changed
pub change_next : {A : Type 0} (f : A → A) (old now : List A) (i : ℕ) (x y : A) → now ≡ map f (take i old) ++ drop i old → i < length old → x ≡ get_or now i x → (x ≡ get_or old i x) × (y ≡ f x → set now i y ≡ map f (take (i + 1) old) ++ drop (i + 1) old)
change_next {A} f old now i x y is lt at =
    let front : List A = map f (take i old) in
    let long : length front ≡ i = length-map (take i old) f ∙ length-take-le i old (omega arith) in
    let rest : drop i old ≡ get_or old i x ∷ drop (i + 1) old = drop_more old i x lt in
    let was : now ≡ front ++ get_or old i x ∷ drop (i + 1) old = is ∙ ap (λ l. front ++ l) rest in
    let here : x ≡ get_or old i x = at ∙ ap (λ l. get_or l i x) was ∙ get_or_at front (get_or old i x) (drop (i + 1) old) x i long in (
      here,
      λ e.
          ap (λ l. set l i y) was ∙ set_at front (get_or old i x) (drop (i + 1) old) y i long ∙ ap (λ z. front ++ z ∷ drop (i + 1) old) e ∙ sym (append_assoc front (f x ∷ []) (drop (i + 1) old))
          ∙ ap (λ l. l ++ drop (i + 1) old) (sym (ap (map f) (take_more old i x lt ∙ ap (λ z. take i old ++ z ∷ []) (sym here)) ∙ map-append f (take i old) (x ∷ []))),
    )

pub map_next : {A B : Type 0} (f : A → B) (old : List A) (i : ℕ) (x : A) → i < length old → x ≡ get_or old i x → map f (take i old) ++ f x ∷ [] ≡ map f (take (i + 1) old)
map_next f old i x lt at = sym (ap (map f) (take_more old i x lt ∙ ap (λ z. take i old ++ z ∷ []) (sym at)) ∙ map-append f (take i old) (x ∷ []))

pub slice_get-set_same : {A : Type 0} (xs : List A) (i : ℕ) (y : A) → i < length xs → slice_get (set xs i y) i ≡ Some y
slice_get-set_same [] i y lt = absurd (omega arith)
slice_get-set_same (x ∷ xs) zero y lt = refl
slice_get-set_same (x ∷ xs) (suc i) y lt = slice_get-set_same xs i y (omega arith)

pub slice_get-set_other : {A : Type 0} (xs : List A) (i j : ℕ) (y : A) → j ≢ i → slice_get (set xs i y) j ≡ slice_get xs j
slice_get-set_other [] i j y n = refl
slice_get-set_other (x ∷ xs) zero zero y n = absurd (n refl)
slice_get-set_other (x ∷ xs) zero (suc j) y n = refl
slice_get-set_other (x ∷ xs) (suc i) zero y n = refl
slice_get-set_other (x ∷ xs) (suc i) (suc j) y n = slice_get-set_other xs i j y (λ e. n (ap suc e))

-- of two lists side by side, those before i are joined in `now`, and the others are as they were
pub record Joined {A B : Type 0} (f : A → B → A) (old : List A) (others : List B) (now : List A) (i : ℕ) : Type 0 where
  pub long : length now ≡ length old
  pub done : (o : ℕ) (a : A) (b : B) → o < i → slice_get old o ≡ Some a → slice_get others o ≡ Some b → slice_get now o ≡ Some (f a b)
  pub rest : (o : ℕ) → i ≤ o → slice_get now o ≡ slice_get old o

pub join_next : {A B : Type 0} (f : A → B → A) (old : List A) (others : List B) (now : List A) (i : ℕ) (x y : A) (b : B) → Joined f old others now i → i < length now → slice_get now i ≡ Some x → slice_get others i ≡ Some b → y ≡ f x b → Joined f old others (set now i y) (i + 1)
join_next f old others now i x y b h lt at at' is = record {
  long = length-set now i y ∙ h.long;
  done = λ o a c le was was'. ⊎_elim
      (λ (e : o ≡ i). (
      let here : a ≡ x = cc (was, ap (slice_get old) e, sym (h.rest i (omega arith)), at) in
      let there : c ≡ b = cc (was', ap (slice_get others) e, at') in
      ap (slice_get (set now i y)) e ∙ slice_get-set_same now i y lt ∙ ap Some (is ∙ cc (here, there))
      ))
      (λ n. slice_get-set_other now i o y n ∙ h.done o a c (omega arith) was was')
      (cases_eq o i);
  rest = λ o le. slice_get-set_other now i o y (λ e. absurd (omega arith)) ∙ h.rest o (omega arith);
}

pub join_at : {A B : Type 0} (f : A → B → A) (old : List A) (others : List B) (now : List A) (i : ℕ) (x : A) (e : B) → Joined f old others now i → length others ≡ length old → i < length others → x ≡ get_or now i x → e ≡ get_or others i e
    → (i < length now) × (slice_get now i ≡ Some x) × (slice_get old i ≡ Some x) × (slice_get others i ≡ Some e)
join_at f old others now i x e h long lt at at' =
    let lt' : i < length now = omega (arith, h.long) in
    let b = slice_get_read now (length now) i x refl lt' at in
    (lt', b, sym (h.rest i (omega arith)) ∙ b, slice_get_read others (length others) i e refl lt at')
