-- Loops over lists: what one element decides.
use Rattle.std.proofs.Common.{◌≡◌, ◌∙◌, sym, ap, subst, ℕ, Bool, true, false, ◌||◌, cond, ◌<◌, ◌+◌, List, [], ◌∷◌, ◌++◌, length, get_or, map, flat_map, take, Option, None, Some, option_map, is_some, refl}
use Rattle.std.specs.List.{list_any, find}
use Rattle.sml_check_faults.specs.Lookup.{first_item, where_so}
use Rattle.sml_check_faults.specs.Repeats.{each_after}
use Rattle.sml_check_faults.specs.Tables.{first_or_else}
use Rattle.sml_check_faults.proofs.Rests.{Rest, Past, rest_here, rest_more, first-append, each_here, each_next}

-- what each of some things has, where the elements are seen through a loan
module _ {X D : Type 0} (f : List D → D → List (List ℕ)) (g : X → D) (xs ys : List X) (k : ℕ) (r : Option (List ℕ)) (x : X) (h : Past (λ bs zs. first_item (each_after f bs zs)) g xs k r) (same : ys ≡ xs) (within : k < length ys) (is : x ≡ get_or ys k x) where
  pub lent_here : (n : List ℕ) → Some n ≡ first_item (f (map g (take k xs)) (g x)) → Some n ≡ r
  lent_here = each_here f g xs k r x h (subst (λ zs. k < length zs) same within) (subst (λ zs. x ≡ get_or zs k x) same is)

  pub lent_next : None ≡ first_item (f (map g (take k xs)) (g x)) → Past (λ bs zs. first_item (each_after f bs zs)) g xs (k + 1) r
  lent_next = each_next f g xs k r x h (subst (λ zs. k < length zs) same within) (subst (λ zs. x ≡ get_or zs k x) same is)

-- whether there is one that passes a test
module _ {X D : Type 0} (p : D → Bool) (g : X → D) (xs : List X) (k : ℕ) (r : Bool) (x : X) (h : Rest (λ ys. list_any p (map g ys)) xs k r) (within : k < length xs) (is : x ≡ get_or xs k x) where
  pub any_one : true ≡ p (g x) → true ≡ r
  any_one so = rest_here (λ ys. list_any p (map g ys)) xs k r x true h within is (λ zs. ap (λ b. b || list_any p (map g zs)) (sym so))

  pub any_more : false ≡ p (g x) → Rest (λ ys. list_any p (map g ys)) xs (k + 1) r
  any_more not_so = rest_more (λ ys. list_any p (map g ys)) xs k r x h within is (λ zs. ap (λ b. b || list_any p (map g zs)) (sym not_so))

-- the same, of the elements themselves
module _ {X : Type 0} (p : X → Bool) (xs : List X) (k : ℕ) (r : Bool) (x : X) (h : Rest (list_any p) xs k r) (within : k < length xs) (is : x ≡ get_or xs k x) where
  pub any_itself : true ≡ p x → true ≡ r
  any_itself so = rest_here (list_any p) xs k r x true h within is (λ zs. ap (λ b. b || list_any p zs) (sym so))

  pub any_after : false ≡ p x → Rest (list_any p) xs (k + 1) r
  any_after not_so = rest_more (list_any p) xs k r x h within is (λ zs. ap (λ b. b || list_any p zs) (sym not_so))

-- the first of what all have, of the elements themselves
module _ {X Y : Type 0} (f : X → List Y) (xs : List X) (k : ℕ) (r : Option Y) (x : X) (h : Rest (λ ys. first_item (flat_map f ys)) xs k r) (within : k < length xs) (is : x ≡ get_or xs k x) where
  pub first_itself : (n : Y) → Some n ≡ first_item (f x) → Some n ≡ r
  first_itself n here = rest_here (λ ys. first_item (flat_map f ys)) xs k r x (Some n) h within is (λ zs. first-append (f x) (flat_map f zs) ∙ ap (λ o. first_or_else o (first_item (flat_map f zs))) (sym here))

  pub first_after : None ≡ first_item (f x) → Rest (λ ys. first_item (flat_map f ys)) xs (k + 1) r
  first_after none = rest_more (λ ys. first_item (flat_map f ys)) xs k r x h within is (λ zs. first-append (f x) (flat_map f zs) ∙ ap (λ o. first_or_else o (first_item (flat_map f zs))) (sym none))

-- the first that passes a test
module _ {X D : Type 0} (p : D → Bool) (g : X → D) (xs : List X) (k : ℕ) (r : Option D) (x : X) (h : Rest (λ ys. find p (map g ys)) xs k r) (within : k < length xs) (is : x ≡ get_or xs k x) where
  pub find_one : true ≡ p (g x) → Some (g x) ≡ r
  find_one so = rest_here (λ ys. find p (map g ys)) xs k r x (Some (g x)) h within is (λ zs. ap (λ b. cond b (Some (g x)) (find p (map g zs))) (sym so))

  pub find_more : false ≡ p (g x) → Rest (λ ys. find p (map g ys)) xs (k + 1) r
  find_more not_so = rest_more (λ ys. find p (map g ys)) xs k r x h within is (λ zs. ap (λ b. cond b (Some (g x)) (find p (map g zs))) (sym not_so))

-- the first of what all have
module _ {X D Y : Type 0} (f : D → List Y) (g : X → D) (xs : List X) (k : ℕ) (r : Option Y) (x : X) (h : Rest (λ ys. first_item (flat_map f (map g ys))) xs k r) (within : k < length xs) (is : x ≡ get_or xs k x) where
  parts : (zs : List X) → first_item (flat_map f (map g (x ∷ zs))) ≡ first_or_else (first_item (f (g x))) (first_item (flat_map f (map g zs)))
  parts zs = first-append (f (g x)) (flat_map f (map g zs))

  pub first_one : (n : Y) → Some n ≡ first_item (f (g x)) → Some n ≡ r
  first_one n here = rest_here (λ ys. first_item (flat_map f (map g ys))) xs k r x (Some n) h within is (λ zs. parts zs ∙ ap (λ o. first_or_else o (first_item (flat_map f (map g zs)))) (sym here))

  pub first_more : None ≡ first_item (f (g x)) → Rest (λ ys. first_item (flat_map f (map g ys))) xs (k + 1) r
  first_more none = rest_more (λ ys. first_item (flat_map f (map g ys))) xs k r x h within is (λ zs. parts zs ∙ ap (λ o. first_or_else o (first_item (flat_map f (map g zs)))) (sym none))

-- what is found is among them
found_if : {X : Type 0} (x : X) (b c : Bool) (o : Option X) → is_some o ≡ c → is_some (cond b (Some x) o) ≡ (b || c)
found_if x true c o e = refl
found_if x false c o e = e

is_found : {X : Type 0} (p : X → Bool) (xs : List X) → is_some (find p xs) ≡ list_any p xs
is_found p [] = refl
is_found p (x ∷ xs) = found_if x (p x) (list_any p xs) (find p xs) (is_found p xs)

is_some_mapped : {X Y : Type 0} (f : X → Y) (o : Option X) → is_some o ≡ is_some (option_map f o)
is_some_mapped f None = refl
is_some_mapped f (Some x) = refl

pub is_there : {X Y : Type 0} (f : X → Y) (o : Option X) (y : Option Y) → option_map f o ≡ y → is_some o ≡ is_some y
is_there f o y found = is_some_mapped f o ∙ ap is_some found

-- something was found where one passes the test
pub found_any : {X Y : Type 0} (f : X → Y) (o : Option X) (p : Y → Bool) (ys : List Y) → option_map f o ≡ find p ys → is_some o ≡ list_any p ys
found_any f o p ys found = is_some_mapped f o ∙ ap is_some found ∙ is_found p ys

-- a name that is there if something is so
pub named_so : (b : Bool) (n : List ℕ) → true ≡ b → Some n ≡ first_item (where_so b n)
named_so b n so = ap (λ c. first_item (where_so c n)) so

pub named_not : (b : Bool) (n : List ℕ) → false ≡ b → None ≡ first_item (where_so b n)
named_not b n not_so = ap (λ c. first_item (where_so c n)) not_so

-- the same, before what comes after it
pub named_first : (b : Bool) (n : List ℕ) (ys : List (List ℕ)) → true ≡ b → Some n ≡ first_item (where_so b n ++ ys)
named_first b n ys so = ap (λ c. first_item (where_so c n ++ ys)) so
