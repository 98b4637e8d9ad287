-- What stands at the place of a set, when all places of blocks were noted, is what it may come to have.
use Rattle.std.proofs.Common.{◌≡◌, ◌≢◌, ◌∙◌, sym, ap, subst, refl, ℕ, suc, ◌<◌, Bool, true, false, ◌&&◌, List, [], ◌∷◌, Option, Some, None, option_map, is_some, fold, map, flat_map, length, get_or, if◌then◌else◌, arith}
use Rattle.std.specs.List.{slice_get}
use Rattle.std.specs.Option.{option_and_then}
use Rattle.std.proofs.lemmas.List.{length-map, length-set, get_or-set_same, get_or-set_other}
use Rattle.std.proofs.lemmas.List.Sums.{fold-append}
use Rattle.std.proofs.lemmas.Option.{none-some, same_Some, slice_get-map, slice_get_within, get_or_from_slice_get}
use Rattle.indexmap.specs.IndexMap.{IndexMap}
use Rattle.sml_tree.specs.Syntax.{ItemData, class, object, group, GroupData}
use Rattle.sml_check_faults.specs.Sites.{Site, asks, tests, sets, ends, changes}
use Rattle.sml_check_faults.specs.Lookup.{named, where_so, file_object_named, group_named, has_object, sites_in, inserted_at, inserted_in, with_name, may_have}
use Rattle.sml_check_faults.specs.Repeats.{is_object_named, is_group}
use Rattle.sml_check_faults.specs.Tables.{place_of, group_item, Places, declared_members, has_place, place_in, added_at, added_if, lists_next, lists_after, listed_at, HasMay}
use Rattle.sml_check_faults.proofs.Pairs.{same_names, named_same}
use Rattle.sml_check_faults.proofs.Places.{absent, group_more}

-- ---- one list, place of a block by place

module _ (known : List ℕ → Bool) (place : List ℕ → Option ℕ) where
  -- there are as many lists as before
  as_many : (lists : List (List (List ℕ))) (s : Site) → length (lists_next known place lists s) ≡ length lists
  as_many lists (asks s) = refl
  as_many lists (tests t) = refl
  as_many lists (sets n v) = refl
  as_many lists (ends n) = refl
  as_many lists (changes false m s) = refl
  as_many lists (changes true m s) = by (known m) (place s)
    where
      by : (b : Bool) (o : Option ℕ) → length (added_if b lists m o) ≡ length lists
      by false o = refl
      by true None = refl
      by true (Some k) = length-set lists k (with_name (get_or lists k []) m)

  -- the list of one set, which alone has its place
  module _ (file : List ItemData) (knows : (m : List ℕ) → known m ≡ has_object file m) (n : List ℕ) (k : ℕ)
      (own : (s : List ℕ) → named n s ≡ true → place s ≡ Some k)
      (others : (s : List ℕ) (j : ℕ) → named n s ≡ false → place s ≡ Some j → k ≢ j) where
    one_next : (lists : List (List (List ℕ))) (s : Site) → k < length lists
        → get_or (lists_next known place lists s) k [] ≡ fold with_name (get_or lists k []) (inserted_at file n s)
    one_next lists (asks s) within = refl
    one_next lists (tests t) within = refl
    one_next lists (sets x v) within = refl
    one_next lists (ends x) within = refl
    one_next lists (changes false m s) within = refl
    one_next lists (changes true m s) within = ap (λ b. get_or (added_if b lists m (place s)) k []) (knows m)
        ∙ by (has_object file m) (named n s) refl
      where
        apart : (o : Option ℕ) → ((j : ℕ) → o ≡ Some j → k ≢ j) → get_or (added_at lists m o) k [] ≡ get_or lists k []
        apart None other = refl
        apart (Some j) other = get_or-set_other lists j k (with_name (get_or lists j []) m) [] (other j refl)

        by : (b c : Bool) → named n s ≡ c → get_or (added_if b lists m (place s)) k []
            ≡ fold with_name (get_or lists k []) (where_so (b && c) m)
        by false c e = refl
        by true true e = ap (λ o. get_or (added_at lists m o) k []) (own s e)
            ∙ get_or-set_same lists k (with_name (get_or lists k []) m) [] within
        by true false e = apart (place s) (λ j. others s j e)

    one_after : (lists : List (List (List ℕ))) (ss : List Site) → k < length lists
        → get_or (fold (lists_next known place) lists ss) k []
        ≡ fold with_name (get_or lists k []) (flat_map (inserted_at file n) ss)
    one_after lists [] within = refl
    one_after lists (s ∷ ss) within =
        let long = as_many lists s in
        one_after (lists_next known place lists s) ss (omega (arith, long))
        ∙ ap (λ ns. fold with_name ns (flat_map (inserted_at file n) ss)) (one_next lists s within)
        ∙ sym (fold-append with_name (get_or lists k []) (inserted_at file n s) (flat_map (inserted_at file n) ss))

-- ---- places

-- a set of a name is at its place
record Placed (file : List ItemData) (n : List ℕ) (k : ℕ) : Type 0 where
  pub set_there : GroupData
  pub at : slice_get file k ≡ Some (group set_there)
  pub is : group_named file n ≡ Some set_there
  pub has_name : named n set_there.name ≡ true

suc_of : (o : Option ℕ) (k : ℕ) → option_map suc o ≡ Some k → (j : ℕ) × (o ≡ Some j) × (suc j ≡ k)
suc_of None k e = absurd (none-some k e)
suc_of (Some j) k e = (j, refl, same_Some (suc j) k e)

later : (x : ItemData) (xs : List ItemData) (n : List ℕ) (j k : ℕ) → suc j ≡ k → group_named (x ∷ xs) n
    ≡ group_named xs n → Placed xs n j → Placed (x ∷ xs) n k
later x xs n j k e same p = record {
  set_there = p.set_there;
  at = subst (λ i. slice_get (x ∷ xs) i ≡ Some (group p.set_there)) e p.at;
  is = same ∙ p.is;
  has_name = p.has_name;
}

placed_at : (file : List ItemData) (n : List ℕ) (k : ℕ) → place_of (is_group n) file ≡ Some k → Placed file n k
placed_at [] n k e = absurd (none-some k e)
placed_at (class c ∷ xs) n k e = let j = suc_of (place_of (is_group n) xs) k e in later (class c) xs n j.0 k j.2 refl
    (placed_at xs n j.0 j.1)
placed_at (object o ∷ xs) n k e = let j = suc_of (place_of (is_group n) xs) k e in later (object o) xs n j.0 k j.2
    refl (placed_at xs n j.0 j.1)
placed_at (group g ∷ xs) n k e = by (named n g.name) refl e (placed_at xs n)
  where
    by : (b : Bool) → named n g.name ≡ b → (if b then Some 0 else option_map suc (place_of (is_group n) xs)) ≡ Some k
        → ((j : ℕ) → place_of (is_group n) xs ≡ Some j → Placed xs n j) → Placed (group g ∷ xs) n k
    by true is f rest = record {
      set_there = g;
      at = subst (λ i. slice_get (group g ∷ xs) i ≡ Some (group g)) (same_Some 0 k f) refl;
      is = ap (λ b. if b then Some g else group_named xs n) is;
      has_name = is;
    }
    by false is f rest = let j = suc_of (place_of (is_group n) xs) k f in later (group g) xs n j.0 k j.2
        (ap (λ b. if b then Some g else group_named xs n) is) (rest j.0 j.1)

-- an object has a place where it is declared
some_object : (file : List ItemData) (m : List ℕ) → is_some (place_of (is_object_named m) file) ≡ has_object file m
some_object [] m = refl
some_object (class c ∷ xs) m = some_later (place_of (is_object_named m) xs) ∙ some_object xs m
  where
    some_later : (o : Option ℕ) → is_some (option_map suc o) ≡ is_some o
    some_later None = refl
    some_later (Some j) = refl
some_object (group g ∷ xs) m = some_later (place_of (is_object_named m) xs) ∙ some_object xs m
  where
    some_later : (o : Option ℕ) → is_some (option_map suc o) ≡ is_some o
    some_later None = refl
    some_later (Some j) = refl
some_object (object o ∷ xs) m = by (named m o.name) (place_of (is_object_named m) xs) (some_object xs m)
  where
    by : (b : Bool) (p : Option ℕ) → is_some p ≡ is_some (file_object_named xs m)
        → is_some (if b then Some 0 else option_map suc p) ≡ is_some (if b then Some o else file_object_named xs m)
    by true p e = refl
    by false None e = e
    by false (Some j) e = e

same_group : (g h : GroupData) → Some (group g) ≡ Some (group h) → g ≡ h
same_group g h e = same_Some g h (ap (option_and_then group_item) e)

-- what the lists come to
pub has_may : {R S : Type 0} (file : List ItemData) (objects : IndexMap (List ℕ) ℕ R)
    (groups : IndexMap (List ℕ) ℕ S) → Places is_object_named file objects → Places is_group file groups
    → (lists : List (List (List ℕ))) → lists ≡ lists_after objects groups (map declared_members file) (sites_in file)
    → HasMay file lists
has_may file objects groups objects_at groups_at lists is n = by (place_of (is_group n) file) refl
  where
    start : List (List (List ℕ))
    start = map declared_members file

    at_place : (k : ℕ) → place_of (is_group n) file ≡ Some k → get_or lists k [] ≡ may_have file n (group_named file n)
    at_place k e =
        let p = placed_at file n k e in
        let within : k < length start = (let long = length-map file declared_members in let inside =
        slice_get_within file k (group p.set_there) p.at in omega (arith, long, inside)) in
        let first : get_or start k [] ≡ p.set_there.members =
        get_or_from_slice_get start k p.set_there.members [] (slice_get-map declared_members file k
        ∙ ap (option_map declared_members) p.at) in
        let own : (s : List ℕ) → named n s ≡ true → place_in groups s
        ≡ Some k = λ s same. ap (place_in groups) (sym (same_names n s same)) ∙ groups_at n ∙ e in
        let others : (s : List ℕ) (j : ℕ) → named n s ≡ false → place_in groups s ≡ Some j → k ≢ j =
        λ s j not_same there equal.
        let q = placed_at file s j (sym (groups_at s) ∙ there) in
        let one = same_group p.set_there q.set_there (sym p.at ∙ ap (slice_get file) equal ∙ q.at) in
        let names : n ≡ s = same_names n p.set_there.name p.has_name ∙ ap (λ (g : GroupData). g.name) one
        ∙ sym (same_names s q.set_there.name q.has_name) in
        let yes = named_same n s names in cc in
        ap (λ ls. get_or ls k []) is
        ∙ one_after (has_place objects) (place_in groups) file (λ m. ap (λ o. is_some o) (objects_at m)
        ∙ some_object file m) n k own others start (sites_in file) within
        ∙ ap (λ ns. fold with_name ns (inserted_in file n)) first ∙ sym (ap (may_have file n) p.is)

    by : (o : Option ℕ) → place_of (is_group n) file ≡ o → listed_at lists o ≡ may_have file n (group_named file n)
    by None e = ap (may_have file n) (absent (is_group n) group_item (λ items. group_named items n) refl
        (group_more n) file None (sym e) refl)
    by (Some k) e = at_place k e
