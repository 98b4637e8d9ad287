-- Which names are among those that a set may come to have.
use Rattle.std.proofs.Common.{◌≡◌, ◌∙◌, sym, ap, subst, refl, ℕ, zero, suc, Bool, true, false, ◌&&◌, ◌⊎◌, inl, inr, List, [], ◌∷◌, ◌++◌, fold, if◌then◌else◌, arith}
use Rattle.std.specs.List.{Contains}
use Rattle.std.proofs.lemmas.Bool.{and_parts}
use Rattle.std.proofs.lemmas.List.Elements.{Contains-append_left, Contains-append_right, Contains-append_cases}
use Rattle.sml_tree.specs.Syntax.{ItemData, class, object, group, ClassData, ActionData}
use Rattle.sml_check_faults.specs.Sites.{Site, asks, tests, sets, ends, changes}
use Rattle.sml_check_faults.specs.Lookup.{named, among, where_so, actions, action_sites, item_sites, sites_in, has_object, inserted_at, inserted_in, with_name}
use Rattle.sml_check_faults.specs.Inside.{HasSite}
use Rattle.sml_check_faults.proofs.Pairs.{any_there, same_names, contains_here, contains_next, contains_one, contains_all}

-- ---- lists of names, name by name

among_there : (names : List (List ℕ)) (n : List ℕ) → among names n ≡ true → Contains names n
among_there names n e = let one = any_there (named n) names e in subst (Contains names)
    (sym (same_names n one.0 one.2)) one.1

module _ (names : List (List ℕ)) (n : List ℕ) where
  pub kept : (o : List ℕ) → Contains names o → Contains (with_name names n) o
  kept o at = by (among names n)
    where
      by : (b : Bool) → Contains (if b then names else names ++ n ∷ []) o
      by true = at
      by false = Contains-append_left names (n ∷ []) o at

  pub added : Contains (with_name names n) n
  added = by (among names n) refl
    where
      by : (b : Bool) → among names n ≡ b → Contains (if b then names else names ++ n ∷ []) n
      by true e = among_there names n e
      by false e = Contains-append_right names (n ∷ []) n (contains_here n [])

  old_or_new : (o : List ℕ) → Contains (with_name names n) o → Contains names o ⊎ Contains (n ∷ []) o
  old_or_new o at = by (among names n) at
    where
      by : (b : Bool) → Contains (if b then names else names ++ n ∷ []) o → Contains names o ⊎ Contains (n ∷ []) o
      by true h = inl h
      by false h = Contains-append_cases names (n ∷ []) o h

-- what is there stays
pub all_kept : (names ns : List (List ℕ)) (o : List ℕ) → Contains names o → Contains (fold with_name names ns) o
all_kept names [] o at = at
all_kept names (n ∷ ns) o at = all_kept (with_name names n) ns o (kept names n o at)

-- what comes is there
pub all_added : (names ns : List (List ℕ)) (o : List ℕ) → Contains ns o → Contains (fold with_name names ns) o
all_added names [] o at = absurd (omega (at.1, arith))
all_added names (n ∷ ns) o (zero, within, is) = all_kept (with_name names n) ns o
    (subst (Contains (with_name names n)) is (added names n))
all_added names (n ∷ ns) o (suc k, within, is) = all_added (with_name names n) ns o (k, omega (within, arith), is)

-- and nothing else is
pub old_or_added : (names ns : List (List ℕ)) (o : List ℕ) → Contains (fold with_name names ns) o → Contains names o
    ⊎ Contains ns o
old_or_added names [] o at = inl at
old_or_added names (n ∷ ns) o at = by (old_or_added (with_name names n) ns o at)
  where
    here : Contains names o ⊎ Contains (n ∷ []) o → Contains names o ⊎ Contains (n ∷ ns) o
    here (inl h) = inl h
    here (inr h) = inr (Contains-append_left (n ∷ []) ns o h)

    by : Contains (with_name names n) o ⊎ Contains ns o → Contains names o ⊎ Contains (n ∷ ns) o
    by (inl h) = here (old_or_new names n o h)
    by (inr h) = inr (contains_next n ns o h)

-- ---- the places of a file

-- a place of an action, and whose it is
pub site_of : (file : List ItemData) (site : Site) → Contains (sites_in file) site → (c : ClassData)
    × (a : ActionData) × HasSite file c a site
site_of file site at = let one = contains_one item_sites file site at in by one.0 one.1 one.2
  where
    by : (x : ItemData) → Contains file x → Contains (item_sites x) site → (c : ClassData) × (a : ActionData)
        × HasSite file c a site
    by (class c) in_file h = let a = contains_one action_sites (actions c) site h in
        (c, a.0, record { class_in = in_file; action_in = a.1; site_in = a.2 })
    by (object o) in_file h = absurd (omega (h.1, arith))
    by (group g) in_file h = absurd (omega (h.1, arith))

pub site_there : (file : List ItemData) (c : ClassData) (a : ActionData) (site : Site) → HasSite file c a site
    → Contains (sites_in file) site
site_there file c a site at = contains_all item_sites file (class c) site at.class_in
    (contains_all action_sites (actions c) a site at.action_in at.site_in)

-- a place that adds this object
record Adds (file : List ItemData) (n o : List ℕ) (site : Site) : Type 0 where
  pub is_change : site ≡ changes true o n
  pub is_known : has_object file o ≡ true

adds : (file : List ItemData) (n o : List ℕ) (site : Site) → Contains (inserted_at file n site) o → Adds file n o site
adds file n o (asks s) at = absurd (omega (at.1, arith))
adds file n o (tests t) at = absurd (omega (at.1, arith))
adds file n o (sets x v) at = absurd (omega (at.1, arith))
adds file n o (ends s) at = absurd (omega (at.1, arith))
adds file n o (changes false m s) at = absurd (omega (at.1, arith))
adds file n o (changes true m s) at = by (has_object file m && named n s) refl at
  where
    one : Contains (m ∷ []) o → m ≡ o
    one (zero, within, is) = is
    one (suc k, within, is) = absurd (omega (within, arith))

    by : (b : Bool) → (has_object file m && named n s) ≡ b → Contains (where_so b m) o
        → Adds file n o (changes true m s)
    by false e h = absurd (omega (h.1, arith))
    by true e h =
        let parts = and_parts (has_object file m) (named n s) e in
        let same = one h in record {
          is_change = ap (λ x. changes true x s) same ∙ ap (changes true o) (sym (same_names n s parts.1));
          is_known = sym (ap (has_object file) same) ∙ parts.0;
        }

-- an object that is inserted, by the place that does it
pub inserted_by : (file : List ItemData) (n o : List ℕ) → Contains (inserted_in file n) o
    → ((c : ClassData) × (a : ActionData) × HasSite file c a (changes true o n)) × (has_object file o ≡ true)
inserted_by file n o at =
    let one = contains_one (inserted_at file n) (sites_in file) o at in
    let its = adds file n o one.0 one.2 in
    let of = site_of file one.0 one.1 in ((of.0, of.1, subst (HasSite file of.0 of.1) its.is_change of.2), its.is_known)
