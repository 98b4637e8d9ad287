-- One more row is gone through, and when all are.
use Rattle.std.proofs.Common.{◌≡◌, ◌<◌, ◌≤◌, ◌+◌, ℕ, List, [], ◌∷◌, All, Contains, length, get_or, remove, ap, sym, ◌∙◌, subst, arith, inl, inr, ⊎_elim}
use Rattle.std.specs.Prelude.{◌⊎◌}
use Rattle.std.proofs.lemmas.Bool.{cases_eq}
use Rattle.std.proofs.lemmas.List.{get_or_default}
use Rattle.std.proofs.lemmas.List.Edits.{length-remove, get_or-remove_below, get_or-remove_above}
use Rattle.std.proofs.lemmas.List.Elements.{Contains-get_or, Contains-push, Contains-push_cases}
use Rattle.sml_domain.specs.Domain.{Domain, Class, State as Stated}
use Rattle.smi_reach.specs.Found.{AddsEnds, EndsFrom, Finds, IsIn, NoneIsIn}
use Rattle.smi_reach.specs.States.{MayBeIn, begins, ends}
use Rattle.smi_reach.proofs.Lists.{in_none, order_of, still_there}

-- what holds of all of a list holds of what is left of it
less_left : (P : ℕ → Type 0) (xs : List ℕ) (j : ℕ) → j < length xs → All P xs → All P (remove xs j)
less_left P xs j lt all k d inside = ⊎_elim (λ e. above (omega (arith, e))) (λ n. ⊎_elim below (λ l. above (omega (arith, l))) (order_of k j n)) (cases_eq k j)
  where
    long : length (remove xs j) + 1 ≡ length xs
    long = length-remove xs j lt

    below : k < j → P (get_or (remove xs j) k d)
    below l = let within : k < length xs = omega (arith, long, inside) in subst P (sym (get_or-remove_below xs j d k l lt)) (all k d within)

    above : j ≤ k → P (get_or (remove xs j) k d)
    above l = let within : k + 1 < length xs = omega (arith, long, inside) in subst P (sym (get_or-remove_above xs j d k l lt)) (all (k + 1) d within)

-- the states in which the actions of a row end, whose state may be had
pub one_more_row : (d : Domain) (c : Class) (reached left new : List ℕ) (j i : ℕ) (x : Stated) → Finds d c reached left → IsIn c.states reached left j → i ≡ get_or left j 0 → x ≡ get_or c.states i x
    → AddsEnds d x.actions reached new → Finds d c new (remove left j)
one_more_row d c reached left new j i x f there i_is x_is k = record {
  sound = λ s h. ⊎_elim (f.sound s) (λ e. ends d c x e.0 s row e.1 (f.sound x.number here) e.2) (k.only s h);
  first = k.keeps c.initial f.first;
  done = λ a y lt. ⊎_elim (λ g. ⊎_elim inl (λ e. inr (λ s h. k.adds s (subst (λ z. EndsFrom d z.actions s) (same a y lt (e ∙ get_or_default left j a 0 there.within ∙ sym i_is)) h))) (still_there left j a there.within g))
      (λ g. inr (λ s h. k.keeps s (g s h))) (f.done a y lt);
  places = less_left (λ n. n < length c.states) left j there.within f.places;
}
  where
    inside : i < length c.states
    inside = subst (λ n. n < length c.states) (sym i_is) (f.places j 0 there.within)

    row : Contains c.states x
    row = subst (Contains c.states) (sym x_is) (Contains-get_or c.states i x inside)

    here : Contains reached x.number
    here = subst (λ z. Contains reached z.number) (ap (λ n. get_or c.states n x) (sym i_is) ∙ sym x_is) (there.there x)

    same : (a : ℕ) (y : Stated) → a < length c.states → a ≡ i → get_or c.states a y ≡ x
    same a y lt e = ap (λ n. get_or c.states n y) e ∙ get_or_default c.states i y x inside ∙ sym x_is

-- where no row is left whose state may be had, all states that may be had are found
pub all_found : (d : Domain) (c : Class) (reached left : List ℕ) (s : ℕ) → Finds d c reached left → NoneIsIn c.states reached left (length left) → MayBeIn d c s → Contains reached s
all_found d c reached left s f none (begins _ _) = f.first
all_found d c reached left s f none (ends _ _ x a _ row has may end) = go (all_found d c reached left x.number f none may) (f.done row.0 x row.1)
  where
    go : Contains reached x.number → Contains left row.0 ⊎ ((t : ℕ) → EndsFrom d (get_or c.states row.0 x).actions t → Contains reached t) → Contains reached s
    go number (inl g) =
        let at : get_or left g.0 0 ≡ row.0 = get_or_default left g.0 0 row.0 g.1 ∙ g.2 in
        let same : get_or c.states (get_or left g.0 0) x ≡ x = ap (λ n. get_or c.states n x) at ∙ row.2 in
        absurd (none g.0 x g.1 g.1 (subst (λ z. Contains reached z.number) (sym same) number))
    go number (inr g) = g s (a, subst (λ z. Contains z.actions a) (sym row.2) has, end)

only_one : (x s : ℕ) → Contains (x ∷ []) s → x ≡ s
only_one x s h = ⊎_elim (λ g. absurd (in_none s g)) (λ e. e) (Contains-push_cases [] x s h)

-- before any row is gone through
pub none_done : (d : Domain) (c : Class) (reached left : List ℕ) → reached ≡ c.initial ∷ [] → ((i : ℕ) → i < length c.states → Contains left i) → All (λ i. i < length c.states) left → Finds d c reached left
none_done d c reached left is all within = record {
  sound = λ s h. subst (MayBeIn d c) (only_one c.initial s (subst (λ l. Contains l s) is h)) (begins d c);
  first = subst (λ l. Contains l c.initial) (sym is) (Contains-push [] c.initial);
  done = λ i x lt. inl (all i lt);
  places = within;
}
