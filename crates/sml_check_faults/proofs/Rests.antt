-- What is left of a list, part by part.
use Rattle.std.proofs.Common.{◌≡◌, ◌∙◌, sym, ap, subst, ℕ, suc, Bool, false, ◌<◌, ◌≤◌, ◌+◌, List, [], ◌∷◌, ◌++◌, length, get_or, map, flat_map, take, drop, Option, None, Some, option_map, refl, add-one, drop-cons}
use Rattle.std.proofs.lemmas.List.{drop_all, take_more, map-append}
use Rattle.std.proofs.lemmas.List.Concat.{flat_map-append}
use Rattle.sml_tree.proofs.Blocks.{instr_content-If}
use Rattle.sml_check_faults.specs.Lookup.{first_item, where_so}
use Rattle.sml_check_faults.specs.Repeats.{each_after}
use Rattle.sml_check_faults.specs.Tables.{first_or_else}

-- a recursion over what is left of a list
pub record Rest {X R : Type 0} (F : List X → R) (xs : List X) (k : ℕ) (r : R) : Type 0 where
  pub is : F (drop k xs) ≡ r

module _ {X R : Type 0} (F : List X → R) (xs : List X) (k : ℕ) (r : R) where
  front : (x : X) → k < length xs → x ≡ get_or xs k x → drop k xs ≡ x ∷ drop (k + 1) xs
  front x within is = drop-cons xs k x within ∙ ap (λ y. y ∷ drop (suc k) xs) (sym is) ∙ ap (λ n. x ∷ drop n xs) (sym (add-one k))

  -- one element that changes nothing
  pub rest_more : (x : X) → Rest F xs k r → k < length xs → x ≡ get_or xs k x → ((ys : List X) → F (x ∷ ys) ≡ F ys) → Rest F xs (k + 1) r
  rest_more x h within is same = record { is = sym (same (drop (k + 1) xs)) ∙ sym (ap F (front x within is)) ∙ h.is }

  -- one that decides
  pub rest_here : (x : X) (v : R) → Rest F xs k r → k < length xs → x ≡ get_or xs k x → ((ys : List X) → F (x ∷ ys) ≡ v) → v ≡ r
  rest_here x v h within is here = sym (here (drop (k + 1) xs)) ∙ sym (ap F (front x within is)) ∙ h.is

  -- none
  pub rest_none : Rest F xs k r → length xs ≤ k → F [] ≡ r
  rest_none h over = sym (ap F (drop_all k xs over)) ∙ h.is

-- where nothing is left, what the recursion has for no element is the result
pub rest_end : {X R : Type 0} {F : List X → R} {xs : List X} {k : ℕ} {r : R} → Rest F xs k r → length xs ≤ k → F [] ≡ r
rest_end {F = F} {xs = xs} {k = k} {r = r} h over = rest_none F xs k r h over

-- the same, where the elements are seen through a loan
pub rest_end_lent : {X R : Type 0} {F : List X → R} {xs : List X} {k : ℕ} {r : R} (ys : List X) → ys ≡ xs → Rest F xs k r → length ys ≤ k → F [] ≡ r
rest_end_lent {F = F} {xs = xs} {k = k} {r = r} ys same h over = rest_none F xs k r h (subst (λ zs. length zs ≤ k) same over)

pub first-append : {X : Type 0} (xs ys : List X) → first_item (xs ++ ys) ≡ first_or_else (first_item xs) (first_item ys)
first-append [] ys = refl
first-append (x ∷ xs) ys = refl

pub first-map : {X Y : Type 0} (f : X → Y) (xs : List X) → first_item (map f xs) ≡ option_map f (first_item xs)
first-map f [] = refl
first-map f (x ∷ xs) = refl

pub first_in-append : {X Y : Type 0} (f : X → List Y) (xs ys : List X) → first_item (flat_map f (xs ++ ys)) ≡ first_or_else (first_item (flat_map f xs)) (first_item (flat_map f ys))
first_in-append f xs ys = ap first_item (flat_map-append f xs ys) ∙ first-append (flat_map f xs) (flat_map f ys)

pub ruleset firsts = (first-append, first_in-append, first-map, instr_content-If)

-- the same, where the elements are seen through a loan
module _ {X R : Type 0} (F : List X → R) (xs ys : List X) (k : ℕ) (r : R) (x : X) (h : Rest F xs k r) (same : ys ≡ xs) (within : k < length ys) (is : x ≡ get_or ys k x) where
  inside : k < length xs
  inside = subst (λ zs. k < length zs) same within

  found_at : x ≡ get_or xs k x
  found_at = subst (λ zs. x ≡ get_or zs k x) same is

  pub more_of : ((zs : List X) → F (x ∷ zs) ≡ F zs) → Rest F xs (k + 1) r
  more_of next = rest_more F xs k r x h inside found_at next

  pub here_of : (v : R) → ((zs : List X) → F (x ∷ zs) ≡ v) → v ≡ r
  here_of v here = rest_here F xs k r x v h inside found_at here

-- the first that one element has is the first of all, where those before it have none
module _ {X Y : Type 0} (F : List X → Option Y) (xs ys : List X) (k : ℕ) (r : Option Y) (x : X) (own : Option Y) (h : Rest F xs k r) (same : ys ≡ xs) (within : k < length ys) (is : x ≡ get_or ys k x) (splits : (zs : List X) → F (x ∷ zs) ≡ first_or_else own (F zs)) where
  pub first_here : (n : Y) → Some n ≡ own → Some n ≡ r
  first_here n here = here_of F xs ys k r x h same within is (Some n) (λ zs. splits zs ∙ ap (λ o. first_or_else o (F zs)) (sym here))

  pub first_next : None ≡ own → Rest F xs (k + 1) r
  first_next none = more_of F xs ys k r x h same within is (λ zs. splits zs ∙ ap (λ o. first_or_else o (F zs)) (sym none))

-- ---- what is left of a list, where those before it count too
pub record Past {X D R : Type 0} (F : List D → List D → R) (g : X → D) (xs : List X) (k : ℕ) (r : R) : Type 0 where
  pub is : F (map g (take k xs)) (map g (drop k xs)) ≡ r

-- nothing is left
pub past_end : {X D R : Type 0} {F : List D → List D → R} {g : X → D} {xs : List X} {k : ℕ} {r : R} → Past F g xs k r → length xs ≤ k → F (map g (take k xs)) [] ≡ r
past_end {F = F} {g = g} {xs = xs} {k = k} h over = sym (ap (λ ys. F (map g (take k xs)) (map g ys)) (drop_all k xs over)) ∙ h.is

pub past_end_lent : {X D R : Type 0} {F : List D → List D → R} {g : X → D} {xs : List X} {k : ℕ} {r : R} (ys : List X) → ys ≡ xs → Past F g xs k r → length ys ≤ k → F (map g (take k xs)) [] ≡ r
past_end_lent {F = F} {g = g} {xs = xs} {k = k} {r = r} ys same h over = past_end h (subst (λ zs. length zs ≤ k) same over)

module _ {X D R : Type 0} (F : List D → List D → R) (g : X → D) (xs : List X) (k : ℕ) (r : R) (x : X) (h : Past F g xs k r) (within : k < length xs) (is : x ≡ get_or xs k x) where
  before : map g (take k xs) ++ g x ∷ [] ≡ map g (take (k + 1) xs)
  before = sym (ap (map g) (take_more xs k x within ∙ ap (λ y. take k xs ++ y ∷ []) (sym is)) ∙ map-append g (take k xs) (x ∷ []))

  left : map g (drop k xs) ≡ g x ∷ map g (drop (k + 1) xs)
  left = ap (map g) (drop-cons xs k x within ∙ ap (λ y. y ∷ drop (suc k) xs) (sym is) ∙ ap (λ n. x ∷ drop n xs) (sym (add-one k)))

  pub past_here : (v : R) → ((ys : List D) → F (map g (take k xs)) (g x ∷ ys) ≡ v) → v ≡ r
  past_here v here = sym (ap (F (map g (take k xs))) left ∙ here (map g (drop (k + 1) xs))) ∙ h.is

  pub past_more : ((ys : List D) → F (map g (take k xs)) (g x ∷ ys) ≡ F (map g (take k xs) ++ g x ∷ []) ys) → Past F g xs (k + 1) r
  past_more same = record { is = ap (λ bs. F bs (map g (drop (k + 1) xs))) (sym before) ∙ sym (ap (F (map g (take k xs))) left ∙ same (map g (drop (k + 1) xs))) ∙ h.is }

-- the first that one has of what each of some things has
module _ {X D : Type 0} (f : List D → D → List (List ℕ)) (g : X → D) (xs : List X) (k : ℕ) (r : Option (List ℕ)) (x : X) (h : Past (λ bs ys. first_item (each_after f bs ys)) g xs k r) (within : k < length xs) (is : x ≡ get_or xs k x) where
  splits : (bs : List D) (ys : List D) → first_item (each_after f bs (g x ∷ ys)) ≡ first_or_else (first_item (f bs (g x))) (first_item (each_after f (bs ++ g x ∷ []) ys))
  splits bs ys = first-append (f bs (g x)) (each_after f (bs ++ g x ∷ []) ys)

  pub each_here : (n : List ℕ) → Some n ≡ first_item (f (map g (take k xs)) (g x)) → Some n ≡ r
  each_here n here =
      past_here (λ bs ys. first_item (each_after f bs ys)) g xs k r x h within is (Some n)
      (λ ys. splits (map g (take k xs)) ys ∙ ap (λ o. first_or_else o (first_item (each_after f (map g (take k xs) ++ g x ∷ []) ys))) (sym here))

  pub each_next : None ≡ first_item (f (map g (take k xs)) (g x)) → Past (λ bs ys. first_item (each_after f bs ys)) g xs (k + 1) r
  each_next none =
      past_more (λ bs ys. first_item (each_after f bs ys)) g xs k r x h within is
      (λ ys. splits (map g (take k xs)) ys ∙ ap (λ o. first_or_else o (first_item (each_after f (map g (take k xs) ++ g x ∷ []) ys))) (sym none))

-- a name that is not there, and what comes after it
pub where_not : (b : Bool) (n : List ℕ) (ys : List (List ℕ)) → false ≡ b → first_item (where_so b n ++ ys) ≡ first_item ys
where_not b n ys not_so = ap (λ c. first_item (where_so c n ++ ys)) (sym not_so)
