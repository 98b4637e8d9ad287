-- The places of items by their names.
use Rattle.std.proofs.Common.{◌≡◌, ◌∙◌, sym, ap, refl, ℕ, zero, suc, ◌<◌, ◌+◌, Bool, true, false, ◌||◌, List, [], ◌∷◌, ◌++◌, length, get_or, map, take, nat_eq, nat_lt, Option, None, Some, option_map, is_some, not, cond, Result, Ok, Err, OnOk, if◌then◌else◌, Bor, arith}
use Rattle.std.proofs.lemmas.List.{take_more, map-append, length-map, length-take-le}
use Rattle.std.proofs.lemmas.Bool.Decides.{nat_tests}
use Rattle.std.proofs.lemmas.Option.{slice_get-map, slice_get_read, slice_get_past}
use Rattle.std.specs.List.{list_any, slice_get}
use Rattle.std.specs.Option.{option_and_then, option_map_or}
use Rattle.std.specs.Cmp.Lexicographic.{pointwise}
use Rattle.indexmap.specs.IndexMap.{IndexMap, get}
use Rattle.std.specs.Slice.{IsGetResult}
use Rattle.sml_tree.specs.Syntax.{ItemData, class, object, group}
use Rattle.std.specs.Bool.{one_answer}
use Rattle.sml_check_faults.proofs.Pairs.{same_names, named_same}
use Rattle.sml_check_faults.specs.Lookup.{named, file_class_named, file_object_named, group_named}
use Rattle.sml_check_faults.specs.Repeats.{is_class_named, is_object_named, is_group}
use Rattle.sml_check_faults.specs.Tables.{place_of, is_before, class_item, object_item, group_item, item_at, first_or_else, Places, IsNoted, is_named, name_as}
use Rattle.sml_check_faults.specs.declared.tables.ItemKind.{ItemKind}
use Rattle.sml_check_faults.specs.declared.tables.ItemKind.TheVariants.{Class, Object, Group}

pub place_push : {X : Type 0} (p : X → Bool) (xs : List X) (x : X) → place_of p (xs ++ x ∷ []) ≡ first_or_else (place_of p xs) (if p x then Some (length xs) else None)
place_push p [] x = by (p x)
  where
    by : (b : Bool) → (if b then Some 0 else option_map suc None) ≡ (if b then Some 0 else None)
    by true = refl
    by false = refl
place_push p (y ∷ xs) x = by (p y) (place_of p xs) (p x) (place_push p xs x)
  where
    by : (b : Bool) (o : Option ℕ) (c : Bool) → place_of p (xs ++ x ∷ []) ≡ first_or_else o (if c then Some (length xs) else None) →
        (if b then Some 0 else option_map suc (place_of p (xs ++ x ∷ []))) ≡ first_or_else (if b then Some 0 else option_map suc o) (if c then Some (suc (length xs)) else None)
    by true o c e = refl
    by false None true e = ap (option_map suc) e
    by false None false e = ap (option_map suc) e
    by false (Some n) c e = ap (option_map suc) e

-- the item at the place of a name, read as one of its kind, is the one of that name
module _ {X : Type 0} (p : ItemData → Bool) (f : ItemData → Option X) (look : List ItemData → Option X) (none : look [] ≡ None)
    (more : (x : ItemData) (xs : List ItemData) → look (x ∷ xs) ≡ (if p x then f x else look xs)) where
  head : (x : ItemData) (xs : List ItemData) (b : Bool) (o : Option ℕ) → option_and_then (item_at f xs) o ≡ look xs →
      option_and_then (item_at f (x ∷ xs)) (if b then Some 0 else option_map suc o) ≡ (if b then f x else look xs)
  head x xs true o e = refl
  head x xs false None e = e
  head x xs false (Some k) e = e

  looked : (items : List ItemData) → option_and_then (item_at f items) (place_of p items) ≡ look items
  looked [] = sym none
  looked (x ∷ xs) = head x xs (p x) (place_of p xs) (looked xs) ∙ sym (more x xs)

  pub placed : (items : List ItemData) (o : Option ℕ) (k : ℕ) → o ≡ place_of p items → Some k ≡ o → item_at f items k ≡ look items
  placed items o k is found = ap (option_and_then (item_at f items)) (found ∙ is) ∙ looked items

  pub absent : (items : List ItemData) (o : Option ℕ) → o ≡ place_of p items → None ≡ o → None ≡ look items
  absent items o is none = ap (option_and_then (item_at f items)) (none ∙ is) ∙ looked items

pub class_more : (q : List ℕ) (x : ItemData) (xs : List ItemData) → file_class_named (x ∷ xs) q ≡ (if is_class_named q x then class_item x else file_class_named xs q)
class_more q (class c) xs = refl
class_more q (object o) xs = refl
class_more q (group g) xs = refl

pub object_more : (q : List ℕ) (x : ItemData) (xs : List ItemData) → file_object_named (x ∷ xs) q ≡ (if is_object_named q x then object_item x else file_object_named xs q)
object_more q (class c) xs = refl
object_more q (object o) xs = refl
object_more q (group g) xs = refl

pub group_more : (q : List ℕ) (x : ItemData) (xs : List ItemData) → group_named (x ∷ xs) q ≡ (if is_group q x then group_item x else group_named xs q)
group_more q (class c) xs = refl
group_more q (object o) xs = refl
group_more q (group g) xs = refl

-- one item more, in a table that gives the name of some items their place
pub one_more : {X : Type 0} (f : X → ItemData) (xs : List X) (i : ℕ) (x : X) (p : ItemData → Bool) (was now more : Option ℕ) → i < length xs → x ≡ get_or xs i x →
    was ≡ place_of p (map f (take i xs)) → now ≡ first_or_else was more → more ≡ (if p (f x) then Some i else None) → now ≡ place_of p (map f (take (i + 1) xs))
one_more f xs i x p was now more within is so_far noted here =
    let n : length (map f (take i xs)) ≡ i = length-map (take i xs) f ∙ length-take-le i xs (omega arith) in
    let all : map f (take (i + 1) xs) ≡ map f (take i xs) ++ f x ∷ [] =
    ap (map f) (take_more xs i x within) ∙ map-append f (take i xs) (get_or xs i x ∷ []) ∙ ap (λ y. map f (take i xs) ++ f y ∷ []) (sym is) in
    noted ∙ ap (λ o. first_or_else o more) so_far ∙ ap (first_or_else (place_of p (map f (take i xs)))) (here ∙ ap (λ k. if p (f x) then Some k else None) (sym n))
    ∙ sym (ap (place_of p) all ∙ place_push p (map f (take i xs)) (f x))

-- what stays where nothing comes
pub still : {X : Type 0} (o : Option X) → o ≡ first_or_else o None
still None = refl
still (Some x) = refl

-- the places of items with one more
pub places_noted : {X S : Type 0} (f : X → ItemData) (xs : List X) (i : ℕ) (x : X) (test : List ℕ → ItemData → Bool) (m m2 : IndexMap (List ℕ) ℕ S) →
    i < length xs → x ≡ get_or xs i x → Places test (map f (take i xs)) m → IsNoted test (f x) i m m2 → Places test (map f (take (i + 1) xs)) m2
places_noted f xs i x test m m2 within is so_far noted = λ q.
    one_more f xs i x (test q) (get (pointwise nat_eq) m q) (get (pointwise nat_eq) m2 q) (if test q (f x) then Some i else None) within is (so_far q)
    (noted q) refl

-- the item that is at a place
pub item_there : {X Y : Type 0} (f : X → ItemData) (read : ItemData → Option Y) (xs ys : List X) (i : ℕ) (x : X) → ys ≡ xs → i < length ys → x ≡ get_or ys i x → item_at read (map f xs) i ≡ read (f x)
item_there f read xs ys i x same within is =
    ap (λ zs. item_at read (map f zs) i) (sym same) ∙ ap (option_and_then read) (slice_get-map f ys i ∙ ap (option_map f) (slice_get_read ys (length ys) i x refl within is))

-- whether a place is before another says whether one of those before it passes the test
later : (k i : ℕ) → nat_lt (suc k) (suc i) ≡ nat_lt k i
later k i = grind (arith, nat_tests)

first_below : (i : ℕ) → nat_lt 0 (suc i) ≡ true
first_below i = grind (arith, nat_tests)

none_below : (k : ℕ) → nat_lt k 0 ≡ false
none_below k = grind (arith, nat_tests)

before_next : (b : Bool) (o : Option ℕ) (i : ℕ) (c : Bool) → is_before i o ≡ c → is_before (suc i) (if b then Some 0 else option_map suc o) ≡ (b || c)
before_next true o i c e = first_below i
before_next false None i c e = e
before_next false (Some k) i c e = later k i ∙ e

before_none : (o : Option ℕ) → is_before 0 o ≡ false
before_none None = refl
before_none (Some k) = none_below k

pub before_any : {X : Type 0} (f : X → ItemData) (p : ItemData → Bool) (xs : List X) (i : ℕ) → is_before i (place_of p (map f xs)) ≡ list_any p (map f (take i xs))
before_any f p [] zero = refl
before_any f p [] (suc i) = refl
before_any f p (x ∷ xs) zero = before_none (place_of p (map f (x ∷ xs)))
before_any f p (x ∷ xs) (suc i) = before_next (p (f x)) (place_of p (map f xs)) i (list_any p (map f (take i xs))) (before_any f p xs i)

-- what a look at a place of a list finds
pub got : {X Y : Type 0} (f : X → Y) (xs ys : List X) (k : ℕ) (r : Option (Bor X)) → ys ≡ xs → IsGetResult ys k k r → option_map (λ (x : Bor X). f x.now) r ≡ slice_get (map f xs) k
got f xs ys k None same h = sym (ap (λ zs. slice_get (map f zs) k) (sym same) ∙ slice_get-map f ys k ∙ ap (option_map f) (slice_get_past ys k h.3))
got f xs ys k (Some x) same h =
    sym (ap (λ zs. slice_get (map f zs) k) (sym same) ∙ slice_get-map f ys k ∙ ap (option_map f) (slice_get_read ys (length ys) k x.now refl h.3.0 h.1))

-- an item has a name where it has it as one of a kind
name_is : (kind : ItemKind) (q : List ℕ) (x : ItemData) → is_named kind q x ≡ option_map_or (named q) (name_as kind x) false
name_is Class q (class c) = refl
name_is Class q (object o) = refl
name_is Class q (group g) = refl
name_is Object q (class c) = refl
name_is Object q (object o) = refl
name_is Object q (group g) = refl
name_is Group q (class c) = refl
name_is Group q (object o) = refl
name_is Group q (group g) = refl

-- a table that an item of a kind changes
pub noted_here : {S E : Type 0} (r : Result (Unit {0}) E) (kind : ItemKind) (x : ItemData) (n : List ℕ) (place : ℕ) (old new : IndexMap (List ℕ) ℕ S) → Some n ≡ name_as kind x →
    OnOk r ((q : List ℕ) → get (pointwise nat_eq) new q ≡ first_or_else (get (pointwise nat_eq) old q) (if named q n then Some place else None)) → OnOk r (IsNoted (is_named kind) x place old new)
noted_here (Ok u) kind x n place old new is noted = λ q.
    noted q ∙ ap (λ b. first_or_else (get (pointwise nat_eq) old q) (if b then Some place else None)) (ap (λ o. option_map_or (named q) o false) is ∙ sym (name_is kind q x))
noted_here (Err e) kind x n place old new is noted = tt

-- a table that an item of another kind leaves
pub not_noted : {S : Type 0} (kind : ItemKind) (x : ItemData) (place : ℕ) (m : IndexMap (List ℕ) ℕ S) → None ≡ name_as kind x → IsNoted (is_named kind) x place m m
not_noted kind x place m is = λ q.
    still (get (pointwise nat_eq) m q) ∙ ap (λ b. first_or_else (get (pointwise nat_eq) m q) (if b then Some place else None)) (ap (λ o. option_map_or (named q) o false) is ∙ sym (name_is kind q x))

name_turned : (a b : List ℕ) → named a b ≡ named b a
name_turned a b = one_answer (named a b) (named b a) (same_names a b, named_same a b) (λ e. sym (same_names b a e), λ e. named_same b a (sym e))

turned : (b c : Bool) → c ≡ not b → not c ≡ b
turned true c e = ap not e
turned false c e = ap not e

none_if : {X : Type 0} (o : Option X) → false ≡ is_some o → o ≡ None
none_if None e = refl
none_if (Some x) e = cc

-- a name with one place more, and a name that had one
pub newly : {X S : Type 0} (q n : List ℕ) (v : X) (old new : IndexMap (List ℕ) X S) → get (pointwise nat_eq) new q ≡ cond (named n q) (Some v) (get (pointwise nat_eq) old q) → true ≡ not (is_some (get (pointwise nat_eq) old n)) →
    get (pointwise nat_eq) new q ≡ first_or_else (get (pointwise nat_eq) old q) (if named q n then Some v else None)
newly {X = X} q n v old new now none =
    by (get (pointwise nat_eq) old q) (get (pointwise nat_eq) new q) (named q n) (now ∙ ap (λ b. cond b (Some v) (get (pointwise nat_eq) old q)) (name_turned n q))
    (λ same. ap (get (pointwise nat_eq) old) (same_names q n same) ∙ none_if (get (pointwise nat_eq) old n) (turned (is_some (get (pointwise nat_eq) old n)) true none))
  where
    by : (was is : Option X) (b : Bool) → is ≡ cond b (Some v) was → (b ≡ true → was ≡ None) → is ≡ first_or_else was (if b then Some v else None)
    by None is true e first = e
    by None is false e first = e
    by (Some w) is true e first = let other : Some w ≡ None = first refl in cc
    by (Some w) is false e first = e

pub kept_by : {X S : Type 0} (q n : List ℕ) (v : X) (m : IndexMap (List ℕ) X S) → false ≡ not (is_some (get (pointwise nat_eq) m n)) → get (pointwise nat_eq) m q ≡ first_or_else (get (pointwise nat_eq) m q) (if named q n then Some v else None)
kept_by {X = X} q n v m there = by (get (pointwise nat_eq) m q) (named q n) (λ same. turned (is_some (get (pointwise nat_eq) m n)) false there ∙ ap (λ k. is_some (get (pointwise nat_eq) m k)) (sym (same_names q n same)))
  where
    by : (was : Option X) (b : Bool) → (b ≡ true → true ≡ is_some was) → was ≡ first_or_else was (if b then Some v else None)
    by (Some w) b some = refl
    by None false some = refl
    by None true some = let e : true ≡ false = some refl in cc
