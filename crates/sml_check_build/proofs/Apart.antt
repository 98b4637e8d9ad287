-- Names of which no two are one.
use Rattle.std.proofs.Common.{◌≡◌, ◌∙◌, sym, ap, refl, subst, ℕ, zero, suc, Bool, true, false, List, [], ◌∷◌, ◌++◌, map, flat_map, fold, arith, append-nil, append_assoc, if◌then◌else◌}
use Rattle.std.specs.Prelude.{◌≢◌}
use Rattle.std.specs.List.{Contains, list_any}
use Rattle.std.proofs.lemmas.List.{map-append}
use Rattle.sml_domain.specs.Names.{same_name, distinct_more, distinct, AreDistinct}
use Rattle.sml_check_faults.specs.Inside.{StandsBefore}
use Rattle.sml_check_faults.proofs.Pairs.{split, none_of, none_from, named_same, not_named, both_false, first_false, second_false, contains_here, contains_next, contains_one, not_false}
use Rattle.sml_check_build.proofs.Numbered.{any_append}

-- the one of a list of one
pub only : {X : Type 0} (x y : X) → Contains (x ∷ []) y → x ≡ y
only x y (zero, within, e) = e
only x y (suc k, within, e) = absurd (omega (within, arith))

-- what something of a list is mapped to
pub contains_unmap : {X Y : Type 0} (f : X → Y) (xs : List X) (y : Y) → Contains (map f xs) y → (x : X) × Contains xs x × (f x ≡ y)
contains_unmap f [] y at = absurd (omega (at.1, arith))
contains_unmap f (x ∷ xs) y (zero, within, e) = (x, contains_here x xs, e)
contains_unmap f (x ∷ xs) y (suc k, within, e) =
    let more = contains_unmap f xs y (k, omega (within, arith), e) in (more.0, contains_next x xs more.0 more.1, more.2)

-- names of which none is the other
pub apart_append : (ns ms : List (List ℕ)) → AreDistinct ns → AreDistinct ms → ((n m : List ℕ) → Contains ns n → Contains ms m → n ≢ m) → AreDistinct (ns ++ ms)
apart_append [] ms h g differ = g
apart_append (n ∷ ns) ms h g differ = (
  any_append (same_name n) ns ms ∙ both_false (list_any (same_name n) ns) (list_any (same_name n) ms) h.0
      (none_from (same_name n) ms (λ m at. not_named m n (λ e. differ n m (contains_here n ns) at (sym e)))),
  apart_append ns ms h.1 g (λ k m at bt. differ k m (contains_next n ns k at) bt),
)

-- one name more, which is not among them
apart_push : (ns : List (List ℕ)) (n : List ℕ) → AreDistinct ns → list_any (same_name n) ns ≡ false → AreDistinct (ns ++ n ∷ [])
apart_push ns n h none =
    apart_append ns (n ∷ []) h (refl, tt)
    (λ k m at bt e. not_false (sym (named_same n k (only n m bt ∙ sym e)) ∙ none_of (same_name n) ns k at none))

fold_apart : (names seen : List (List ℕ)) → AreDistinct seen → AreDistinct (fold distinct_more seen names)
fold_apart [] seen h = h
fold_apart (n ∷ names) seen h = fold_apart names (distinct_more seen n) (by (list_any (same_name n) seen) refl)
  where
    by : (b : Bool) → list_any (same_name n) seen ≡ b → AreDistinct (if b then seen else seen ++ n ∷ [])
    by true e = h
    by false e = apart_push seen n h e

pub distinct_apart : (names : List (List ℕ)) → AreDistinct (distinct names)
distinct_apart names = fold_apart names [] tt

-- ---- of pairs

pub stands_first : {X : Type 0} (x y : X) (xs : List X) → Contains xs y → StandsBefore x y (x ∷ xs)
stands_first x y xs at = let s = split xs y at in record { before = []; between = s.before; after = s.after; is = ap (λ ys. x ∷ ys) s.is }

pub stands_next : {X : Type 0} (z x y : X) (xs : List X) → StandsBefore x y xs → StandsBefore x y (z ∷ xs)
stands_next z x y xs s = record { before = z ∷ s.before; between = s.between; after = s.after; is = ap (λ ys. z ∷ ys) s.is }

-- the names of some things
pub apart_map : {X : Type 0} (name : X → List ℕ) (xs : List X) → ((x y : X) → StandsBefore x y xs → name x ≢ name y) → AreDistinct (map name xs)
apart_map name [] differ = tt
apart_map name (x ∷ xs) differ = (
  none_from (same_name (name x)) (map name xs) (λ m at. let y = contains_unmap name xs m at in not_named m (name x) (λ e. differ x y.0 (stands_first x y.0 xs y.1) (sym (y.2 ∙ e)))),
  apart_map name xs (λ y z s. differ y z (stands_next x y z xs s)),
)

-- the names of what some things have
pub apart_flat : {X Y : Type 0} (name : Y → List ℕ) (f : X → List Y) (xs : List X) → ((x : X) → AreDistinct (map name (f x))) →
    ((x y : X) (a b : Y) → StandsBefore x y xs → Contains (f x) a → Contains (f y) b → name a ≢ name b) → AreDistinct (map name (flat_map f xs))
apart_flat name f [] each differ = tt
apart_flat name f (x ∷ xs) each differ =
    subst AreDistinct (sym (map-append name (f x) (flat_map f xs)))
    (apart_append (map name (f x)) (map name (flat_map f xs)) (each x) (apart_flat name f xs each (λ y z a b s. differ y z a b (stands_next x y z xs s)))
    (λ n m at bt. let a = contains_unmap name (f x) n at in
    let b = contains_unmap name (flat_map f xs) m bt in
    let y = contains_one f xs b.0 b.1 in
    λ e. differ x y.0 a.0 b.0 (stands_first x y.0 xs y.1) a.1 y.2 (a.2 ∙ e ∙ sym b.2)))

-- a name is not before one that it is apart from
not_before : (seen : List (List ℕ)) (n : List ℕ) (ns : List (List ℕ)) → AreDistinct (seen ++ n ∷ ns) → list_any (same_name n) seen ≡ false
not_before [] n ns h = refl
not_before (s ∷ seen) n ns h =
    let none = second_false (list_any (same_name s) seen) (list_any (same_name s) (n ∷ ns)) (sym (any_append (same_name s) seen (n ∷ ns)) ∙ h.0) in
    let other = first_false (same_name s n) (list_any (same_name s) ns) none in
    both_false (same_name n s) (list_any (same_name n) seen) (not_named s n (λ e. not_false (sym (named_same s n e) ∙ other))) (not_before seen n ns h.1)

added : (seen : List (List ℕ)) (n : List ℕ) (b : Bool) → b ≡ false → (if b then seen else seen ++ n ∷ []) ≡ seen ++ n ∷ []
added seen n true e = absurd (cc e)
added seen n false e = refl

apart_kept : (ns seen : List (List ℕ)) → AreDistinct (seen ++ ns) → fold distinct_more seen ns ≡ seen ++ ns
apart_kept [] seen h = sym (append-nil seen)
apart_kept (n ∷ ns) seen h =
    ap (λ s. fold distinct_more s ns) (added seen n (list_any (same_name n) seen) (not_before seen n ns h))
    ∙ apart_kept ns (seen ++ n ∷ []) (subst AreDistinct (sym (append_assoc seen (n ∷ []) ns)) h)
    ∙ append_assoc seen (n ∷ []) ns

-- names of which no two are one are each kept
pub distinct_same : (ns : List (List ℕ)) → AreDistinct ns → distinct ns ≡ ns
distinct_same ns h = apart_kept ns [] h
