-- Where nothing is repeated no two have one name.
use Rattle.std.proofs.Common.{◌≡◌, ◌∙◌, sym, ap, subst, refl, ℕ, zero, suc, ◌<◌, Bool, true, false, ◌||◌, List, [], ◌∷◌, ◌++◌, length, flat_map, Some, is_some, ◌⊎◌, inl, inr, append-nil, cond, arith}
use Rattle.std.specs.Prelude.{◌≢◌}
use Rattle.std.specs.List.{Contains, list_any, find, slice_index_or}
use Rattle.std.proofs.lemmas.List.Elements.{Contains-append_left, Contains-append_right, Contains-append_cases}
use Rattle.std.proofs.lemmas.List.{append_assoc}
use Rattle.std.proofs.lemmas.List.Concat.{flat_map-append}
use Rattle.std.proofs.lemmas.List.Folds.{list_any-append, Any-from_list_any}
use Rattle.std.proofs.lemmas.Cmp.{nat_list_eq_equiv}
use Rattle.std.proofs.lemmas.Slice.Eq.{bytes_eq-Decides}
use Rattle.sml_check_faults.specs.Lookup.{named, where_so}
use Rattle.sml_check_faults.specs.Repeats.{each_after}
use Rattle.sml_check_faults.specs.Inside.{StandsBefore}

-- ---- parts of nothing

pub left_nil : {X : Type 0} (xs ys : List X) → xs ++ ys ≡ [] → xs ≡ []
left_nil [] ys h = refl
left_nil (x ∷ xs) ys h = cc

pub right_nil : {X : Type 0} (xs ys : List X) → xs ++ ys ≡ [] → ys ≡ []
right_nil [] ys h = h
right_nil (x ∷ xs) ys h = cc

-- something is in a list, between what is before it and what is after it
pub record Split {X : Type 0} (x : X) (xs : List X) : Type 0 where
  pub before : List X
  pub after : List X
  pub is : xs ≡ before ++ x ∷ after

split_at : {X : Type 0} (xs : List X) (k : ℕ) (x : X) → k < length xs → slice_index_or xs k x ≡ x → Split x xs
split_at [] k x within is = absurd (omega arith)
split_at (y ∷ xs) zero x within is = record { before = []; after = xs; is = ap (λ z. z ∷ xs) is }
split_at (y ∷ xs) (suc k) x within is =
    let s = split_at xs k x (omega arith) is in record { before = y ∷ s.before; after = s.after; is = ap (λ zs. y ∷ zs) s.is }

pub split : {X : Type 0} (xs : List X) (x : X) → Contains xs x → Split x xs
split xs x at = split_at xs at.0 x at.1 at.2

-- what one of some things has, where all have nothing
pub flat_nil : {X Y : Type 0} (f : X → List Y) (xs : List X) (x : X) → Contains xs x → flat_map f xs ≡ [] → f x ≡ []
flat_nil f xs x at h =
    let s = split xs x at in
    left_nil (f x) (flat_map f s.after) (right_nil (flat_map f s.before) (f x ++ flat_map f s.after) (sym (ap (flat_map f) s.is ∙ flat_map-append f s.before (x ∷ s.after)) ∙ h))

-- the same, where those before it count too
after_nil : {X : Type 0} (f : List X → X → List (List ℕ)) (bs ps : List X) (y : X) (qs : List X) → each_after f bs (ps ++ y ∷ qs) ≡ [] → f (bs ++ ps) y ≡ []
after_nil f bs [] y qs h = ap (λ zs. f zs y) (append-nil bs) ∙ left_nil (f bs y) (each_after f (bs ++ y ∷ []) qs) h
after_nil f bs (p ∷ ps) y qs h =
    ap (λ zs. f zs y) (sym (append_assoc bs (p ∷ []) ps)) ∙ after_nil f (bs ++ p ∷ []) ps y qs (right_nil (f bs p) (each_after f (bs ++ p ∷ []) (ps ++ y ∷ qs)) h)

split_nil : {X : Type 0} (f : List X → X → List (List ℕ)) (xs : List X) (y : X) (s : Split y xs) → each_after f [] xs ≡ [] → f s.before y ≡ []
split_nil f xs y s h = after_nil f [] s.before y s.after (sym (ap (each_after f []) s.is) ∙ h)

-- something has nothing, where some stand before it
pub each_nil : {X : Type 0} (f : List X → X → List (List ℕ)) (xs : List X) (y : X) → Contains xs y → each_after f [] xs ≡ [] → (bs : List X) × (f bs y ≡ [])
each_nil f xs y at h = let s = split xs y at in (s.before, split_nil f xs y s h)

-- ---- tests that fail

pub not_so : (b : Bool) (n : List ℕ) → where_so b n ≡ [] → b ≡ false
not_so true n h = cc
not_so false n h = refl

pub first_false : (a b : Bool) → (a || b) ≡ false → a ≡ false
first_false true b e = cc
first_false false b e = refl

pub second_false : (a b : Bool) → (a || b) ≡ false → b ≡ false
second_false true b e = cc
second_false false b e = e

none_between : {X : Type 0} (p : X → Bool) (bs : List X) (x : X) (cs : List X) → list_any p (bs ++ x ∷ cs) ≡ false → p x ≡ false
none_between p bs x cs h = first_false (p x) (list_any p cs) (second_false (list_any p bs) (p x || list_any p cs) (sym (list_any-append p bs (x ∷ cs)) ∙ h))

-- none of some things passes a test
pub none_of : {X : Type 0} (p : X → Bool) (xs : List X) (x : X) → Contains xs x → list_any p xs ≡ false → p x ≡ false
none_of p xs x at h = let s = split xs x at in none_between p s.before x s.after (sym (ap (list_any p) s.is) ∙ h)

pub other_names : (n m : List ℕ) → named m n ≡ false → n ≢ m
other_names n m h e = by (sym (nat_list_eq_equiv.refl m) ∙ sym (ap (named m) e) ∙ h)
  where
    by : true ≡ false → ⊥
    by e = cc

-- the second of two has another name, where none before it has its own
pub differ : {X : Type 0} (p : X → Bool) (f : List X → X → List (List ℕ)) (xs : List X) (x y : X) (n m : List ℕ) → StandsBefore x y xs → each_after f [] xs ≡ []
    → ((bs : List X) → f bs y ≡ [] → list_any p bs ≡ false) → p x ≡ named m n → n ≢ m
differ p f xs x y n m b h says is =
    let s : Split y xs = record { before = b.before ++ x ∷ b.between; after = b.after; is = b.is ∙ sym (append_assoc b.before (x ∷ b.between) (y ∷ b.after)) } in
    other_names n m (sym is ∙ none_between p b.before x b.between (says s.before (split_nil f xs y s h)))

-- something is found exactly if some pass
pub found_any : {X : Type 0} (p : X → Bool) (xs : List X) → is_some (find p xs) ≡ list_any p xs
found_any p [] = refl
found_any p (x ∷ xs) = by (p x) (found_any p xs)
  where
    by : (b : Bool) → is_some (find p xs) ≡ list_any p xs → is_some (cond b (Some x) (find p xs)) ≡ (b || list_any p xs)
    by true e = refl
    by false e = e

-- ---- lists that follow one another

pub contains_here : {X : Type 0} (x : X) (xs : List X) → Contains (x ∷ xs) x
contains_here x xs = (0, omega arith, refl)

pub contains_next : {X : Type 0} (y : X) (xs : List X) (x : X) → Contains xs x → Contains (y ∷ xs) x
contains_next y xs x at = Contains-append_right (y ∷ []) xs x at

-- what is in one of the lists
pub contains_one : {X Y : Type 0} (f : X → List Y) (xs : List X) (y : Y) → Contains (flat_map f xs) y → (x : X) × Contains xs x × Contains (f x) y
contains_one f [] y at = absurd (omega (at.1, arith))
contains_one {X} {Y} f (x ∷ xs) y at = by (contains_one f xs y) (Contains-append_cases (f x) (flat_map f xs) y at)
  where
    by : (Contains (flat_map f xs) y → (z : X) × Contains xs z × Contains (f z) y) → Contains (f x) y ⊎ Contains (flat_map f xs) y → (z : X) × Contains (x ∷ xs) z × Contains (f z) y
    by next (inl here) = (x, contains_here x xs, here)
    by next (inr later) = let more = next later in (more.0, contains_next x xs more.0 more.1, more.2)

-- what is in one of the lists is in all of them
pub contains_all : {X Y : Type 0} (f : X → List Y) (xs : List X) (x : X) (y : Y) → Contains xs x → Contains (f x) y → Contains (flat_map f xs) y
contains_all f xs x y at in_it =
    let s = split xs x at in
    subst (λ ys. Contains ys y) (sym (ap (flat_map f) s.is ∙ flat_map-append f s.before (x ∷ s.after)))
    (Contains-append_right (flat_map f s.before) (f x ++ flat_map f s.after) y (Contains-append_left (f x) (flat_map f s.after) y in_it))

-- ---- nothing of parts

pub both_nil : {X : Type 0} (xs ys : List X) → xs ≡ [] → ys ≡ [] → xs ++ ys ≡ []
both_nil xs ys e f = ap (λ zs. zs ++ ys) e ∙ f

pub flat_none : {X Y : Type 0} (f : X → List Y) (xs : List X) → ((x : X) → Contains xs x → f x ≡ []) → flat_map f xs ≡ []
flat_none f [] each = refl
flat_none f (x ∷ xs) each = both_nil (f x) (flat_map f xs) (each x (contains_here x xs)) (flat_none f xs (λ y at. each y (contains_next x xs y at)))

each_none : {X : Type 0} (f : List X → X → List (List ℕ)) (bs xs : List X) → ((y : X) (s : Split y xs) → f (bs ++ s.before) y ≡ []) → each_after f bs xs ≡ []
each_none f bs [] each = refl
each_none f bs (x ∷ xs) each =
    both_nil (f bs x) (each_after f (bs ++ x ∷ []) xs) (sym (ap (λ zs. f zs x) (append-nil bs)) ∙ each x (record { before = []; after = xs; is = refl }))
    (each_none f (bs ++ x ∷ []) xs
    (λ y s. ap (λ zs. f zs y) (append_assoc bs (x ∷ []) s.before) ∙ each y (record { before = x ∷ s.before; after = s.after; is = ap (λ zs. x ∷ zs) s.is })))

pub none_after : {X : Type 0} (f : List X → X → List (List ℕ)) (xs : List X) → ((y : X) (s : Split y xs) → f s.before y ≡ []) → each_after f [] xs ≡ []
none_after f xs each = each_none f [] xs each

pub contains_split : {X : Type 0} (xs : List X) (y : X) → Split y xs → Contains xs y
contains_split xs y s = subst (λ zs. Contains zs y) (sym s.is) (Contains-append_right s.before (y ∷ s.after) y (contains_here y s.after))

pub so_not : (b : Bool) (n : List ℕ) → b ≡ false → where_so b n ≡ []
so_not true n e = cc
so_not false n e = refl

pub both_false : (a b : Bool) → a ≡ false → b ≡ false → (a || b) ≡ false
both_false true b e f = cc
both_false false b e f = f

pub none_from : {X : Type 0} (p : X → Bool) (xs : List X) → ((x : X) → Contains xs x → p x ≡ false) → list_any p xs ≡ false
none_from p [] each = refl
none_from p (x ∷ xs) each = both_false (p x) (list_any p xs) (each x (contains_here x xs)) (none_from p xs (λ y at. each y (contains_next x xs y at)))

-- what is before something
pub stands : {X : Type 0} (xs : List X) (y : X) (s : Split y xs) (x : X) → Contains s.before x → StandsBefore x y xs
stands xs y s x at =
    let t = split s.before x at in
    record { before = t.before; between = t.after; after = s.after; is = s.is ∙ ap (λ zs. zs ++ y ∷ s.after) t.is ∙ append_assoc t.before (x ∷ t.after) (y ∷ s.after) }

-- none before something passes a test
pub alone : {X : Type 0} (p : X → Bool) (xs : List X) (y : X) (s : Split y xs) → ((x : X) → StandsBefore x y xs → p x ≡ false) → list_any p s.before ≡ false
alone p xs y s each = none_from p s.before (λ x at. each x (stands xs y s x at))

pub same_names : (n m : List ℕ) → named n m ≡ true → n ≡ m
same_names n m e = (bytes_eq-Decides n m).0 e

pub named_same : (n m : List ℕ) → n ≡ m → named n m ≡ true
named_same n m e = (bytes_eq-Decides n m).1 e

pub not_named : (n m : List ℕ) → n ≢ m → named m n ≡ false
not_named n m other = by (named m n) refl
  where
    by : (b : Bool) → named m n ≡ b → named m n ≡ false
    by true e = absurd (other (sym (same_names m n e)))
    by false e = e

-- ---- tests that pass

pub or_true : (a b : Bool) → b ≡ true → (a || b) ≡ true
or_true true b e = refl
or_true false b e = e

pub any_after : {X : Type 0} (p : X → Bool) (bs : List X) (x : X) (cs : List X) → p x ≡ true → list_any p (bs ++ x ∷ cs) ≡ true
any_after p [] x cs e = ap (λ b. b || list_any p cs) e
any_after p (b ∷ bs) x cs e = or_true (p b) (list_any p (bs ++ x ∷ cs)) (any_after p bs x cs e)

pub any_at : {X : Type 0} (p : X → Bool) (xs : List X) (x : X) → Contains xs x → p x ≡ true → list_any p xs ≡ true
any_at p xs x at e = let s = split xs x at in ap (list_any p) s.is ∙ any_after p s.before x s.after e

pub any_there : {X : Type 0} (p : X → Bool) (xs : List X) → list_any p xs ≡ true → (x : X) × Contains xs x × (p x ≡ true)
any_there p xs e = let a = Any-from_list_any p xs e in (a.1, (a.0, a.2, a.3), a.4)

pub not_false : true ≡ false → ⊥
not_false e = cc
