-- Names that have numbers.
use Rattle.std.proofs.Common.{◌≡◌, ◌∙◌, sym, ap, refl, subst, ℕ, ◌+◌, ◌<◌, Bool, true, false, cond, ◌||◌, List, [], ◌∷◌, ◌++◌, get_or, map, fold, Some, is_some, All, arith, if◌then◌else◌}
use Rattle.std.specs.Prelude.{◌⊎◌}
use Rattle.std.proofs.Common.{inl, inr}
use Rattle.std.specs.List.{Contains, list_any, position, position_from}
use Rattle.std.proofs.lemmas.List.{length-map}
use Rattle.std.proofs.lemmas.List.Elements.{All-contains_itself}
use Rattle.std.proofs.lemmas.Iterator.Adapters.{position_from-zero}
use Rattle.std.proofs.Math.ListN.{get_or-map}
use Rattle.sml_domain.specs.Names.{same_name, distinct_more, distinct}
use Rattle.sml_check_faults.proofs.Pairs.{any_at, any_there, named_same, same_names, or_true}
use Rattle.sml_check_build.specs.Placed.{NameHasNumber}

-- ---- places

is_some_from : {X : Type 0} (p : X → Bool) (i : ℕ) (xs : List X) → is_some (position_from p i xs) ≡ list_any p xs
is_some_from p i [] = refl
is_some_from {X} p i (x ∷ xs) = by (p x) (is_some_from p (i + 1) xs)
  where
    by : (b : Bool) → is_some (position_from p (i + 1) xs) ≡ list_any p xs → is_some (cond b (Some i) (position_from p (i + 1) xs)) ≡ (b || list_any p xs)
    by true e = refl
    by false e = e

pub placed_any : {X : Type 0} (p : X → Bool) (xs : List X) → is_some (position p xs) ≡ list_any p xs
placed_any p xs = ap is_some (position_from-zero p xs) ∙ is_some_from p 0 xs

-- something that passes has a place
pub place_there : {X : Type 0} (p : X → Bool) (xs : List X) (x : X) → Contains xs x → p x ≡ true → is_some (position p xs) ≡ true
place_there p xs x at passes = placed_any p xs ∙ any_at p xs x at passes

-- a name that is among others
pub number_any : (names : List (List ℕ)) (n : List ℕ) → list_any (same_name n) names ≡ true → NameHasNumber names n
number_any names n any = placed_any (same_name n) names ∙ any

pub any_name : (names : List (List ℕ)) (n : List ℕ) → Contains names n → list_any (same_name n) names ≡ true
any_name names n at = any_at (same_name n) names n at (named_same n n refl)

pub contains_map : {X Y : Type 0} (f : X → Y) (xs : List X) (x : X) → Contains xs x → Contains (map f xs) (f x)
contains_map f xs x at = (at.0, subst (λ n. at.0 < n) (sym (length-map xs f)) at.1, get_or-map f xs at.0 x ∙ ap f at.2)

-- the name of something
pub number_of_one : {X : Type 0} (f : X → List ℕ) (xs : List X) (x : X) (n : List ℕ) → Contains xs x → f x ≡ n → NameHasNumber (map f xs) n
number_of_one f xs x n at is = subst (NameHasNumber (map f xs)) is (number_any (map f xs) (f x) (any_name (map f xs) (f x) (contains_map f xs x at)))

-- what is so of each element
pub all_from : {X : Type 0} (P : X → Type 0) (xs : List X) → ((x : X) → Contains xs x → P x) → All P xs
all_from P xs each k d within = each (get_or xs k d) (All-contains_itself xs k d within)

-- ---- names without those that came before

pub any_append : {X : Type 0} (p : X → Bool) (xs ys : List X) → list_any p (xs ++ ys) ≡ (list_any p xs || list_any p ys)
any_append p [] ys = refl
any_append {X} p (x ∷ xs) ys = by (p x) (any_append p xs ys)
  where
    by : (b : Bool) → list_any p (xs ++ ys) ≡ (list_any p xs || list_any p ys) → (b || list_any p (xs ++ ys)) ≡ ((b || list_any p xs) || list_any p ys)
    by true e = refl
    by false e = e

or_first : (a b : Bool) → a ≡ true → (a || b) ≡ true
or_first a b e = ap (λ c. c || b) e

more_keeps : (x n : List ℕ) (seen : List (List ℕ)) → list_any (same_name x) seen ≡ true → list_any (same_name x) (distinct_more seen n) ≡ true
more_keeps x n seen e = by (list_any (same_name n) seen)
  where
    by : (b : Bool) → list_any (same_name x) (if b then seen else seen ++ n ∷ []) ≡ true
    by true = e
    by false = any_append (same_name x) seen (n ∷ []) ∙ or_first _ _ e

more_adds : (n : List ℕ) (seen : List (List ℕ)) → list_any (same_name n) (distinct_more seen n) ≡ true
more_adds n seen = by (list_any (same_name n) seen) refl
  where
    by : (b : Bool) → list_any (same_name n) seen ≡ b → list_any (same_name n) (if b then seen else seen ++ n ∷ []) ≡ true
    by true e = e
    by false e = any_append (same_name n) seen (n ∷ []) ∙ or_true (list_any (same_name n) seen) _ (any_name (n ∷ []) n (0, omega arith, refl))

fold_keeps : (x : List ℕ) (names seen : List (List ℕ)) → list_any (same_name x) seen ≡ true → list_any (same_name x) (fold distinct_more seen names) ≡ true
fold_keeps x [] seen e = e
fold_keeps x (n ∷ names) seen e = fold_keeps x names (distinct_more seen n) (more_keeps x n seen e)

fold_adds : (x : List ℕ) (names seen : List (List ℕ)) → list_any (same_name x) names ≡ true → list_any (same_name x) (fold distinct_more seen names) ≡ true
fold_adds x [] seen e = cc
fold_adds x (n ∷ names) seen e = by (fold_adds x names (distinct_more seen n)) (same_name x n) refl e
  where
    by : (list_any (same_name x) names ≡ true → list_any (same_name x) (fold distinct_more (distinct_more seen n) names) ≡ true) → (b : Bool) → same_name x n ≡ b → (b || list_any (same_name x) names) ≡ true → list_any (same_name x) (fold distinct_more seen (n ∷ names)) ≡ true
    by next true is e = fold_keeps x names (distinct_more seen n) (subst (λ y. list_any (same_name y) (distinct_more seen n) ≡ true) (sym (same_names x n is)) (more_adds n seen))
    by next false is e = next e

-- each name is among the distinct ones
pub distinct_has : (names : List (List ℕ)) (n : List ℕ) → Contains names n → NameHasNumber (distinct names) n
distinct_has names n at = number_any (distinct names) n (fold_adds n names [] (any_name names n at))

more_from : (x n : List ℕ) (seen : List (List ℕ)) → list_any (same_name x) (distinct_more seen n) ≡ true → (list_any (same_name x) seen || list_any (same_name x) (n ∷ [])) ≡ true
more_from x n seen = by (list_any (same_name n) seen)
  where
    by : (b : Bool) → list_any (same_name x) (if b then seen else seen ++ n ∷ []) ≡ true → (list_any (same_name x) seen || list_any (same_name x) (n ∷ [])) ≡ true
    by true e = or_first _ _ e
    by false e = sym (any_append (same_name x) seen (n ∷ [])) ∙ e

or_cases : (a b : Bool) → (a || b) ≡ true → (a ≡ true) ⊎ (b ≡ true)
or_cases true b e = inl refl
or_cases false b e = inr e

fold_from : (x : List ℕ) (names seen : List (List ℕ)) → list_any (same_name x) (fold distinct_more seen names) ≡ true → (list_any (same_name x) seen ≡ true) ⊎ (list_any (same_name x) names ≡ true)
fold_from x [] seen e = inl e
fold_from x (n ∷ names) seen e = by (fold_from x names (distinct_more seen n) e)
  where
    next : (list_any (same_name x) seen ≡ true) ⊎ (list_any (same_name x) (n ∷ []) ≡ true) → (list_any (same_name x) seen ≡ true) ⊎ (list_any (same_name x) (n ∷ names) ≡ true)
    next (inl h) = inl h
    next (inr h) = inr (any_append (same_name x) (n ∷ []) names ∙ or_first _ _ h)

    by : (list_any (same_name x) (distinct_more seen n) ≡ true) ⊎ (list_any (same_name x) names ≡ true) → (list_any (same_name x) seen ≡ true) ⊎ (list_any (same_name x) (n ∷ names) ≡ true)
    by (inl h) = next (or_cases (list_any (same_name x) seen) (list_any (same_name x) (n ∷ [])) (more_from x n seen h))
    by (inr h) = inr (or_true (same_name x n) (list_any (same_name x) names) h)

-- each distinct name is one of them
pub distinct_from : (names : List (List ℕ)) (n : List ℕ) → Contains (distinct names) n → (m : List ℕ) × Contains names m × (same_name n m ≡ true)
distinct_from names n at = by (fold_from n names [] (any_name (distinct names) n at))
  where
    by : (list_any (same_name n) [] ≡ true) ⊎ (list_any (same_name n) names ≡ true) → (m : List ℕ) × Contains names m × (same_name n m ≡ true)
    by (inl h) = cc
    by (inr h) = any_there (same_name n) names h

-- a name is among the distinct ones exactly if it is among them
pub distinct_any : (x : List ℕ) (names : List (List ℕ)) → list_any (same_name x) (distinct names) ≡ list_any (same_name x) names
distinct_any x names = by (list_any (same_name x) names) (list_any (same_name x) (distinct names)) refl refl
  where
    none : (list_any (same_name x) [] ≡ true) ⊎ (list_any (same_name x) names ≡ true) → list_any (same_name x) names ≡ true
    none (inl h) = cc
    none (inr h) = h

    by : (a b : Bool) → list_any (same_name x) names ≡ a → list_any (same_name x) (distinct names) ≡ b → b ≡ a
    by true true e f = refl
    by false false e f = refl
    by true false e f = sym f ∙ fold_adds x names [] e
    by false true e f = sym (none (fold_from x names [] f)) ∙ e
