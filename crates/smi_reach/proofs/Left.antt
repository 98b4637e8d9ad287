-- What is found of what nothing comes to.
use Rattle.std.proofs.Common.{◌≡◌, ◌<◌, ◌≤◌, ◌≢◌, ◌+◌, ◌∷◌, ◌++◌, ℕ, Bool, true, false, List, [], All, Contains, length, get_or, take, ap, sym, ◌∙◌, subst, arith, inl, inr, ⊎_elim}
use Rattle.std.specs.Prelude.{◌⊎◌, ◌↔◌, Some, None, slice_get}
use Rattle.std.proofs.lemmas.Bool.{cases_eq}
use Rattle.std.proofs.lemmas.Option.{slice_get_cases}
use Rattle.std.proofs.lemmas.List.Elements.{All-push, Contains-append_left, Contains-push, Contains-push_cases}
use Rattle.sml_domain.specs.Domain.{Domain, Class, State as Stated}
use Rattle.sml_domain.specs.Places.{instrs_at}
use Rattle.smi_reach.specs.declared.unreached.Unreached.{Unreached}
use Rattle.smi_reach.specs.declared.places.Reach.{Reach}
use Rattle.smi_reach.specs.Reach.{ComesTo, IsReachOf}
use Rattle.smi_reach.specs.States.{MayBeIn}
use Rattle.smi_reach.specs.Unreached.{IsUnreached, AreUnreached, IsFirstIn, IsLeft, IsUnenteredAmong, IsUnentered}
use Rattle.smi_reach.proofs.Lists.{order_of}

-- a list has the first such instructions of the first blocks
pub record ListsUpTo (d : Domain) (list : List Unreached) (n : ℕ) : Type 0 where
  pub only : All (IsUnreached d) list
  pub all : (u : Unreached) → u.block < n → IsUnreached d u → ComesTo d u.block 0 → (x : Unreached) × Contains list x × (x.block ≡ u.block) × (x.place ≤ u.place)

-- one more block, that has one
pub lists_one : (d : Domain) (list : List Unreached) (n : ℕ) (x : Unreached) → ListsUpTo d list n → IsFirstIn d n (Some x) → ListsUpTo d (list ++ x ∷ []) (n + 1)
lists_one d list n x l f = record {
  only = All-push (IsUnreached d) list x l.only f.0;
  all = λ u lt h c. ⊎_elim (λ e. (x, Contains-push list x, f.1 ∙ sym e, f.2 u e h)) (λ o. let y = l.all u (omega (arith, lt, o)) h c in (y.0, Contains-append_left list (x ∷ []) y.0 y.1, y.2, y.3)) (cases_eq u.block n);
}

-- one more block, that has none
pub lists_none : (d : Domain) (list : List Unreached) (n : ℕ) → ListsUpTo d list n → IsFirstIn d n None → ListsUpTo d list (n + 1)
lists_none d list n l f = record {
  only = l.only;
  all = λ u lt h c. ⊎_elim (λ e. absurd (f u e h (subst (λ b. ComesTo d b 0) e c))) (λ o. l.all u (omega (arith, lt, o)) h c) (cases_eq u.block n);
}

-- one more row is left
pub one_left : (d : Domain) (c : Class) (rows : List Stated) (row : Stated) (list : List ℕ) → ((s : ℕ) → IsUnenteredAmong d c rows s ↔ Contains list s) → (MayBeIn d c row.number → ⊥) → row.number ≢ c.dead
    → (s : ℕ) → IsUnenteredAmong d c (rows ++ row ∷ []) s ↔ Contains (list ++ row.number ∷ []) s
one_left d c rows row list k never alive s = (there, back)
  where
    there : IsUnenteredAmong d c (rows ++ row ∷ []) s → Contains (list ++ row.number ∷ []) s
    there h = ⊎_elim (λ g. Contains-append_left list (row.number ∷ []) s ((k s).0 (record { row = h.row; declared = g; number = h.number; never = h.never; alive = h.alive })))
        (λ e. subst (Contains (list ++ row.number ∷ [])) (ap (λ y. y.number) e ∙ h.number) (Contains-push list row.number)) (Contains-push_cases rows row h.row h.declared)

    back : Contains (list ++ row.number ∷ []) s → IsUnenteredAmong d c (rows ++ row ∷ []) s
    back h = ⊎_elim (λ g. let x = (k s).1 g in record { row = x.row; declared = Contains-append_left rows (row ∷ []) x.row x.declared; number = x.number; never = x.never; alive = x.alive })
        (λ e. record { row = row; declared = Contains-push rows row; number = e; never = λ m. never (subst (MayBeIn d c) (sym e) m); alive = λ a. alive (e ∙ a) }) (Contains-push_cases list row.number s h)

-- one more row is not
pub none_left : (d : Domain) (c : Class) (rows : List Stated) (row : Stated) (list : List ℕ) → ((s : ℕ) → IsUnenteredAmong d c rows s ↔ Contains list s) → ((MayBeIn d c row.number → ⊥) → row.number ≢ c.dead → ⊥)
    → (s : ℕ) → IsUnenteredAmong d c (rows ++ row ∷ []) s ↔ Contains list s
none_left d c rows row list k not s = (there, back)
  where
    there : IsUnenteredAmong d c (rows ++ row ∷ []) s → Contains list s
    there h = ⊎_elim (λ g. (k s).0 (record { row = h.row; declared = g; number = h.number; never = h.never; alive = h.alive }))
        (λ e. let is : row.number ≡ s = ap (λ y. y.number) e ∙ h.number in absurd (not (λ m. h.never (subst (MayBeIn d c) is m)) (λ a. h.alive (sym is ∙ a)))) (Contains-push_cases rows row h.row h.declared)

    back : Contains list s → IsUnenteredAmong d c (rows ++ row ∷ []) s
    back g = let x = (k s).1 g in record { row = x.row; declared = Contains-append_left rows (row ∷ []) x.row x.declared; number = x.number; never = x.never; alive = x.alive }

-- an instruction to which no action comes is behind those that are passed
pub not_passed : (d : Domain) (r : Reach) (b p : ℕ) → IsReachOf d r → get_or r.begun.items b false ≡ true → p ≡ get_or r.passed.items b 0 → (u : Unreached) → u.block ≡ b → IsUnreached d u → p < u.place
not_passed d r b p reach begun is u at h = ⊎_elim (λ e. absurd (reached (omega (arith, e)))) (λ n. ⊎_elim (λ lt. absurd (reached (omega (arith, lt)))) (λ gt. gt) (order_of u.place p n)) (cases_eq u.place p)
  where
    reached : u.place ≤ p → ⊥
    reached le = h.never (subst (λ k. ComesTo d k u.place) (sym at) ((reach.places b u.place).0 (record { begun = begun; within = omega (arith, le, is) })))

-- and the next one is such an instruction
pub next_is_unreached : (d : Domain) (r : Reach) (b p : ℕ) → IsReachOf d r → p ≡ get_or r.passed.items b 0 → p + 1 < length (instrs_at d.blocks b) → IsUnreached d (record { block = b; place = p + 1 })
next_is_unreached d r b p reach is lt = ⊎_elim
    (λ x. record { instr = x.0; there = x.2; never = λ c. let w = ((reach.places b (p + 1)).1 c).within in omega (arith, w, is) })
    (λ x. let past = x.0 in absurd (omega (arith, past, lt)))
    (slice_get_cases (instrs_at d.blocks b) (p + 1)).1
