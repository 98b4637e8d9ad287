-- A meaning of a block ends as the block may.
use Rattle.std.proofs.Common.{◌≡◌, ℕ, Bool, true, false, List, [], ◌∷◌, ◌++◌, refl, sym, ap, subst, ◌∙◌, arith, inl, inr}
use Rattle.std.specs.Prelude.{◌&&◌, ◌||◌, ◌⊎◌, if◌then◌else◌}
use Rattle.std.specs.List.{Contains}
use Rattle.std.proofs.lemmas.List.Elements.{Contains-get_or, Contains-append_left, Contains-append_right}
use Rattle.sml_domain.specs.Program.{Formula, ToOne, ToMembers, Program, Nothing, SetThen, SendThen, SendNoneThen, IfThen, EndIn, TerminateIn, WaitThen, ChangeThen}
use Rattle.sml_domain.specs.Domain.{Domain}
use Rattle.sml_domain.specs.Lookups.{members_at}
use Rattle.smi_journal_entries.specs.declared.journal.Format.{Format}
use Rattle.smi_journal_entries.specs.declared.journal.Format.TheVariants.{One, Two}
use Rattle.smi_journal_entries.specs.Sets.{members_in}
use Rattle.smi_meaning.specs.Environment.{Env, value_of, with_set}
use Rattle.smi_meaning.specs.Conditions.{is_true_over}
use Rattle.smi_meaning.specs.Meaning.{Move, Outcome, Through, To, Means, Goes}
use Rattle.smi_meaning.specs.Quiet.{to_some, quiet, said_of_block}
use Rattle.smi_meaning.proofs.Picked.{on_branch}
use Rattle.smi_reach.specs.Falling.{falls_through, ends_of}

-- a block may end so
abbrev pub EndsAs : Program → Outcome → Type 0
EndsAs b Through = falls_through b ≡ true
EndsAs b (To s) = Contains (ends_of b) s

only_one : (s : ℕ) → Contains (s ∷ []) s
only_one s = Contains-get_or (s ∷ []) 0 s (omega arith)

pub left_or : (a b : Bool) → a ≡ true → (a || b) ≡ true
left_or true b h = refl
left_or false b h = absurd (cc h)

pub right_or : (a b : Bool) → b ≡ true → (a || b) ≡ true
right_or true b h = refl
right_or false b h = h

pub both_true : (a b : Bool) → a ≡ true → b ≡ true → (a && b) ≡ true
both_true true b h g = g
both_true false b h g = absurd (cc h)

taken : (b : Bool) (xs : List ℕ) (s : ℕ) → b ≡ true → Contains xs s → Contains (if b then xs else []) s
taken true xs s e h = h
taken false xs s e h = absurd (cc e)

-- what follows an `if` of which a branch falls through
after_if : (f : Formula) (p q rest : Program) (r : Outcome) → (falls_through p || falls_through q) ≡ true → EndsAs rest r → EndsAs (IfThen f p q rest) r
after_if f p q rest Through falls h = both_true (falls_through p || falls_through q) (falls_through rest) falls h
after_if f p q rest (To s) falls h =
    Contains-append_left (if falls_through p || falls_through q then ends_of rest else []) (ends_of p ++ ends_of q) s
    (taken (falls_through p || falls_through q) (ends_of rest) s falls h)

-- a state in which a branch ends
in_branch : (f : Formula) (p q rest : Program) (s : ℕ) → EndsAs p (To s) ⊎ EndsAs q (To s) → EndsAs (IfThen f p q rest) (To s)
in_branch f p q rest s (inl h) =
    Contains-append_right (if falls_through p || falls_through q then ends_of rest else []) (ends_of p ++ ends_of q) s
    (Contains-append_left (ends_of p) (ends_of q) s h)
in_branch f p q rest s (inr h) =
    Contains-append_right (if falls_through p || falls_through q then ends_of rest else []) (ends_of p ++ ends_of q) s
    (Contains-append_right (ends_of p) (ends_of q) s h)

some_falls : (p q : Program) → EndsAs p Through ⊎ EndsAs q Through → (falls_through p || falls_through q) ≡ true
some_falls p q (inl h) = left_or (falls_through p) (falls_through q) h
some_falls p q (inr h) = right_or (falls_through p) (falls_through q) h

-- an `if` ends as its branch did, or as what follows it
if_ends : (d : Domain) (f : Formula) (p q rest : Program) (r1 : Outcome) (e1 : Env) (ms : List Move) (e2 : Env) (r : Outcome) → EndsAs p r1 ⊎ EndsAs q r1 → (Means d rest e1 ms e2 r → EndsAs rest r) → Goes r1 e1 ms e2 r (Means d rest)
    → EndsAs (IfThen f p q rest) r
if_ends d f p q rest Through e1 ms e2 r h rests g = after_if f p q rest r (some_falls p q h) (rests g)
if_ends d f p q rest (To s) e1 ms e2 r h rests g = subst (EndsAs (IfThen f p q rest)) (sym g.2) (in_branch f p q rest s h)

-- a block that ends as what follows its first instruction
same_end : (b rest : Program) (r : Outcome) → falls_through b ≡ falls_through rest → ends_of b ≡ ends_of rest → EndsAs rest r → EndsAs b r
same_end b rest Through falls ends h = falls ∙ h
same_end b rest (To s) falls ends h = subst (λ l. Contains l s) (sym ends) h

-- a meaning ends as its block may
pub ends_as : (d : Domain) (b : Program) (env : Env) (ms : List Move) (env2 : Env) (r : Outcome) → Means d b env ms env2 r → EndsAs b r
ends_as d Nothing env ms env2 r m = subst (EndsAs Nothing) (sym m.2) refl
ends_as d (EndIn s) env ms env2 r m = subst (EndsAs (EndIn s)) (sym m.2) (only_one s)
ends_as d (TerminateIn s) env ms env2 r m = subst (EndsAs (TerminateIn s)) (sym m.2) (only_one s)
ends_as d (SetThen p x rest) env ms env2 r m = same_end (SetThen p x rest) rest r refl refl (ends_as d rest (with_set env p (value_of env x)) m.0 env2 r m.2)
ends_as d (SendThen t a args rest) env ms env2 r m = same_end (SendThen t a args rest) rest r refl refl (ends_as d rest env m.1 env2 r m.4)
ends_as d (SendNoneThen set rest) env ms env2 r m = same_end (SendNoneThen set rest) rest r refl refl (ends_as d rest env m.1 env2 r m.4)
ends_as d (IfThen f p q rest) env ms env2 r m =
    if_ends d f p q rest m.4 m.3 m.2 env2 r
    (on_branch (EndsAs p m.4 ⊎ EndsAs q m.4) (is_true_over (members_in d m.0.sets) m.0.readings f) (Means d p env m.1 m.3 m.4) (Means d q env m.1 m.3 m.4) (λ u. inl (ends_as d p env m.1 m.3 m.4 u)) (λ u. inr (ends_as d q env m.1 m.3 m.4 u)) m.7)
    (λ u. ends_as d rest m.3 m.2 env2 r u) m.8
ends_as d (WaitThen names rest) env ms env2 r m = same_end (WaitThen names rest) rest r refl refl (ends_as d rest env m.1 env2 r m.4)
ends_as d (ChangeThen add o set rest) env ms env2 r m = same_end (ChangeThen add o set rest) rest r refl refl (ends_as d rest env m.0 env2 r m.2)

-- ---- in each format

either_one : {X : Type 0} (f : Program → X) (os : List ℕ) (p q : Program) (x : X) → f p ≡ x → f q ≡ x → f (to_some os p q) ≡ x
either_one f [] p q x h g = g
either_one f (o ∷ os) p q x h g = h

-- a block falls through as its quiet one does
quiet_falls : (d : Domain) (b : Program) → falls_through (quiet d b) ≡ falls_through b
quiet_falls d Nothing = refl
quiet_falls d (EndIn s) = refl
quiet_falls d (TerminateIn s) = refl
quiet_falls d (SetThen p x rest) = quiet_falls d rest
quiet_falls d (SendThen (ToOne o) a args rest) = quiet_falls d rest
quiet_falls d (SendThen (ToMembers set) a args rest) =
    either_one falls_through (members_at d set) (SendThen (ToMembers set) a args (quiet d rest)) (quiet d rest) (falls_through rest) (quiet_falls d rest) (quiet_falls d rest)
quiet_falls d (SendNoneThen set rest) = quiet_falls d rest
quiet_falls d (IfThen f p q rest) =
    ap (λ b. (b || falls_through (quiet d q)) && falls_through (quiet d rest)) (quiet_falls d p)
    ∙ ap (λ b. (falls_through p || b) && falls_through (quiet d rest)) (quiet_falls d q)
    ∙ ap (λ b. (falls_through p || falls_through q) && b) (quiet_falls d rest)
quiet_falls d (WaitThen names rest) = quiet_falls d rest
quiet_falls d (ChangeThen add o set rest) = quiet_falls d rest

-- and it ends in the same states
quiet_ends : (d : Domain) (b : Program) → ends_of (quiet d b) ≡ ends_of b
quiet_ends d Nothing = refl
quiet_ends d (EndIn s) = refl
quiet_ends d (TerminateIn s) = refl
quiet_ends d (SetThen p x rest) = quiet_ends d rest
quiet_ends d (SendThen (ToOne o) a args rest) = quiet_ends d rest
quiet_ends d (SendThen (ToMembers set) a args rest) =
    either_one ends_of (members_at d set) (SendThen (ToMembers set) a args (quiet d rest)) (quiet d rest) (ends_of rest) (quiet_ends d rest) (quiet_ends d rest)
quiet_ends d (SendNoneThen set rest) = quiet_ends d rest
quiet_ends d (IfThen f p q rest) =
    ap (λ b. (if b || falls_through (quiet d q) then ends_of (quiet d rest) else []) ++ (ends_of (quiet d p) ++ ends_of (quiet d q))) (quiet_falls d p)
    ∙ ap (λ b. (if falls_through p || b then ends_of (quiet d rest) else []) ++ (ends_of (quiet d p) ++ ends_of (quiet d q))) (quiet_falls d q)
    ∙ ap (λ l. (if falls_through p || falls_through q then l else []) ++ (ends_of (quiet d p) ++ ends_of (quiet d q))) (quiet_ends d rest)
    ∙ ap (λ l. (if falls_through p || falls_through q then ends_of rest else []) ++ (l ++ ends_of (quiet d q))) (quiet_ends d p)
    ∙ ap (λ l. (if falls_through p || falls_through q then ends_of rest else []) ++ (ends_of p ++ l)) (quiet_ends d q)
quiet_ends d (WaitThen names rest) = quiet_ends d rest
quiet_ends d (ChangeThen add o set rest) = quiet_ends d rest

-- a block ends in the same states in each format
pub said_ends : (format : Format) (d : Domain) (b : Program) → ends_of (said_of_block format d b) ≡ ends_of b
said_ends One d b = quiet_ends d b
said_ends Two d b = refl
