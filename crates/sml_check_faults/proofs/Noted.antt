-- Loops that note what is inserted, element by element.
use Rattle.std.proofs.Common.{◌≡◌, ◌∙◌, sym, ap, subst, refl, ℕ, suc, ◌<◌, ◌≤◌, ◌+◌, List, [], ◌∷◌, ◌++◌, Vec, length, get_or, drop, take, map, set, option_map, add-one, drop-cons}
use Rattle.std.specs.Global.{Global}
use Rattle.std.proofs.lemmas.List.{drop_all, take_more, map-append, map-set}
use Rattle.std.proofs.lemmas.List.Sums.{fold-append}
use Rattle.std.proofs.lemmas.Option.{slice_get-map, slice_get_read, get_or_from_slice_get}
use Rattle.indexmap.specs.IndexMap.{IndexMap}
use Rattle.sml_tree.specs.Syntax.{WaitedData, CondData, both, either, neither, test}
use Rattle.sml_check_faults.specs.Sites.{Site, cond_sites, waited_site}
use Rattle.sml_check_faults.specs.Lookup.{with_name}
use Rattle.sml_check_faults.specs.Tables.{names_in, has_place, place_in, lists_next, lists_after}

-- what is left of a list makes this of what was made
pub record Left {S X : Type 0} (F : S → List X → S) (xs : List X) (k : ℕ) (now result : S) : Type 0 where
  pub is : F now (drop k xs) ≡ result

module _ {R T X : Type 0} (objects : IndexMap (List ℕ) ℕ R) (groups : IndexMap (List ℕ) ℕ T) (G : List X
    → List Site) where
  -- what some elements make of lists
  abbrev after : List (List (List ℕ)) → List X → List (List (List ℕ))
  after lists zs = lists_after objects groups lists (G zs)

  -- the first `k` elements were noted
  abbrev pub Notes : List X → ℕ → List (Vec (List ℕ) Global) → List (Vec (List ℕ) Global) → Type 0
  Notes xs k old now = Left after xs k (map names_in now) (after (map names_in old) xs)

  module _ (own : X → List Site) (splits : (x : X) (zs : List X) → G (x ∷ zs) ≡ own x ++ G zs) (xs ys : List X)
      (k : ℕ) (old now : List (Vec (List ℕ) Global)) (h : Notes xs k old now) (same : ys ≡ xs) where
    -- one more
    pub notes_more : (next : List (Vec (List ℕ) Global)) (x : X) → k < length ys → x ≡ get_or ys k x
        → map names_in next ≡ lists_after objects groups (map names_in now) (own x) → Notes xs (k + 1) old next
    notes_more next x within is noted = record {
      is =
          ap (λ ls. after ls (drop (k + 1) xs)) noted
          ∙ sym (fold-append (lists_next (has_place objects) (place_in groups)) (map names_in now) (own x)
          (G (drop (k + 1) xs)))
          ∙ ap (lists_after objects groups (map names_in now)) (sym (splits x (drop (k + 1) xs)))
          ∙ ap (after (map names_in now))
          (sym (front (subst (λ zs. k < length zs) same within) (subst (λ zs. x ≡ get_or zs k x) same is)))
          ∙ h.is;
    }
      where
        front : k < length xs → x ≡ get_or xs k x → drop k xs ≡ x ∷ drop (k + 1) xs
        front inside at = drop-cons xs k x inside ∙ ap (λ y. y ∷ drop (suc k) xs) (sym at)
            ∙ ap (λ n. x ∷ drop n xs) (sym (add-one k))

    -- none
    pub notes_end : G [] ≡ [] → length ys ≤ k → map names_in now ≡ after (map names_in old) xs
    notes_end none over =
        ap (lists_after objects groups (map names_in now)) (sym none)
        ∙ sym (ap (after (map names_in now)) (drop_all k xs (subst (λ zs. length zs ≤ k) same over))) ∙ h.is

-- what is not an `insert` changes nothing
module _ {R T : Type 0} (objects : IndexMap (List ℕ) ℕ R) (groups : IndexMap (List ℕ) ℕ T) where
  pub waits_nothing : (lists : List (List (List ℕ))) (ws : List WaitedData)
      → lists_after objects groups lists (map waited_site ws) ≡ lists
  waits_nothing lists [] = refl
  waits_nothing lists (w ∷ ws) = waits_nothing lists ws

  pub tests_nothing : (lists : List (List (List ℕ))) (c : CondData) → lists_after objects groups lists (cond_sites c)
      ≡ lists
  tests_nothing lists (both c d) =
      fold-append (lists_next (has_place objects) (place_in groups)) lists (cond_sites c) (cond_sites d)
      ∙ ap (λ ls. lists_after objects groups ls (cond_sites d)) (tests_nothing lists c) ∙ tests_nothing lists d
  tests_nothing lists (either c d) =
      fold-append (lists_next (has_place objects) (place_in groups)) lists (cond_sites c) (cond_sites d)
      ∙ ap (λ ls. lists_after objects groups ls (cond_sites d)) (tests_nothing lists c) ∙ tests_nothing lists d
  tests_nothing lists (neither c) = tests_nothing lists c
  tests_nothing lists (test t) = refl

  -- an `if`, by its blocks
  pub two_blocks : (lists first second : List (List (List ℕ))) (c : CondData) (xs ys : List Site) → first
      ≡ lists_after objects groups lists xs → second ≡ lists_after objects groups first ys
      → second ≡ lists_after objects groups lists (cond_sites c ++ (xs ++ ys))
  two_blocks lists first second c xs ys one two =
      let step = lists_next (has_place objects) (place_in groups) in
      two ∙ ap (λ ls. lists_after objects groups ls ys) one ∙ sym (fold-append step lists xs ys)
      ∙ ap (λ ls. lists_after objects groups ls (xs ++ ys)) (sym (tests_nothing lists c))
      ∙ sym (fold-append step lists (cond_sites c) (xs ++ ys))

-- one list is longer by a name
pub list_set : (lists : List (Vec (List ℕ) Global)) (k : ℕ) (was now : Vec (List ℕ) Global) (n : List ℕ)
    → k < length lists → was ≡ get_or lists k was → now.items ≡ with_name was.items n
    → map names_in (set lists k now) ≡ set (map names_in lists) k (with_name (get_or (map names_in lists) k []) n)
list_set lists k was now n within is added =
    map-set names_in lists k now ∙ ap (set (map names_in lists) k) (added
    ∙ ap (λ ns. with_name ns n) (sym (at lists k within is)))
  where
    at : (ls : List (Vec (List ℕ) Global)) (i : ℕ) → i < length ls → was ≡ get_or ls i was
        → get_or (map names_in ls) i [] ≡ was.items
    at ls i inside e =
        get_or_from_slice_get (map names_in ls) i was.items [] (slice_get-map names_in ls i
        ∙ ap (option_map names_in) (slice_get_read ls (length ls) i was refl inside e))

-- one list more
pub lists_pushed : {X : Type 0} (f : X → List (List ℕ)) (xs : List X) (k : ℕ) (x : X)
    (was now : List (Vec (List ℕ) Global)) (v : Vec (List ℕ) Global) → k < length xs → x ≡ get_or xs k x
    → map names_in was ≡ map f (take k xs) → now ≡ was ++ v ∷ [] → v.items ≡ f x → map names_in now
    ≡ map f (take (k + 1) xs)
lists_pushed f xs k x was now v within is before pushed same =
    ap (map names_in) pushed ∙ map-append names_in was (v ∷ []) ∙ ap (λ ls. ls ++ v.items ∷ []) before
    ∙ ap (λ ns. map f (take k xs) ++ ns ∷ []) same
    ∙ sym (ap (map f) (take_more xs k x within ∙ ap (λ y. take k xs ++ y ∷ []) (sym is))
    ∙ map-append f (take k xs) (x ∷ []))
