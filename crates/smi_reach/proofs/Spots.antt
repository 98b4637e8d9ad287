-- Moves lead from place to place.
use Rattle.std.proofs.Common.{◌≡◌, ℕ, zero, suc, ◌+◌, Bool, true, false, List, [], ◌∷◌, Some, None, drop, refl, ap, sym, ◌∙◌, subst, inl, inr, add-one}
use Rattle.std.specs.Prelude.{◌⊎◌, ◌&&◌, ◌||◌, if◌then◌else◌, slice_get}
use Rattle.sml_domain.specs.Program.{Argument, Instruction, Assigns, Sends, SendsToNone, Chooses, Moves, Terminates, Waits, Changes, Formula, ToOne, ToMembers, Program, Nothing, SetThen, SendThen, SendNoneThen, IfThen, EndIn, TerminateIn, WaitThen, ChangeThen}
use Rattle.sml_domain.specs.Domain.{Domain}
use Rattle.sml_domain.specs.Lookups.{members_at, tree_of_block}
use Rattle.sml_domain.specs.Places.{instrs_at, left_at}
use Rattle.sml_domain.specs.Sound.{IsSound}
use Rattle.sml_domain.specs.Trees.{with_instr, trees_of}
use Rattle.sml_domain.proofs.Blocks.{left_of_sound, shown}
use Rattle.smi_journal_entries.specs.declared.journal.Format.{Format}
use Rattle.smi_journal_entries.specs.declared.journal.Format.TheVariants.{One, Two}
use Rattle.smi_journal_entries.specs.Sets.{members_in}
use Rattle.smi_meaning.specs.Conditions.{is_true_over}
use Rattle.smi_meaning.specs.Environment.{Env}
use Rattle.smi_meaning.specs.Meaning.{Move}
use Rattle.smi_meaning.specs.Quiet.{to_some, quiet, said_of_block}
use Rattle.smi_meaning.specs.Steps.{with_rest, After, Leads}
use Rattle.smi_meaning.proofs.Quieted.{quiet_rest}
use Rattle.smi_reach.specs.Falling.{falls_through}
use Rattle.smi_reach.specs.Places.{is_instr_passed, IsInstrAt, IsPlaceReached, first, next, branch, other, is_nobody, is_silent, IsAtInstr, MovesLeadToThem}
use Rattle.smi_reach.proofs.Falls.{both_true, left_or, right_or}

-- a place, and the places behind the `if`s that are under way, the innermost first
record Spot : Type 0 where
  block : ℕ
  index : ℕ

abbrev at : ℕ → ℕ → Spot
at b i = record { block = b; index = i }

-- what is left of its block
abbrev left : Domain → Spot → Program
left d p = left_at d.blocks p.block p.index

-- and of those behind
abbrev behind : Domain → List Spot → Program
behind d [] = Nothing
behind d (p ∷ ps) = with_rest (left d p) (behind d ps)

-- where the block at a place falls through, the next place is reached, and so on
abbrev Follow : Domain → ℕ → Spot → List Spot → Type 0
Follow d root p [] = Unit {0}
Follow d root p (q ∷ qs) = falls_through (left d p) ≡ true → IsPlaceReached d root q.block q.index × Follow d root q qs

-- where an action is
record Stands (format : Format) (d : Domain) (root : ℕ) (b : Program) : Type 0 where
  here : Spot
  later : List Spot
  reached : IsPlaceReached d root here.block here.index
  follow : Follow d root here later
  is : b ≡ said_of_block format d (with_rest (left d here) (behind d later))

-- where an action is, with the instruction there
record StandsAt (format : Format) (d : Domain) (root : ℕ) (b : Program) : Type 0 where
  here : Spot
  later : List Spot
  reached : IsPlaceReached d root here.block here.index
  follow : Follow d root here later
  instr : Instruction
  there : IsInstrAt d here.block here.index instr
  heard : is_silent format d instr ≡ false
  is : b ≡ said_of_block format d (with_rest (with_instr (trees_of d.blocks) instr (left d (at here.block (here.index + 1)))) (behind d later))

rest_nothing : (b : Program) → with_rest b Nothing ≡ b
rest_nothing Nothing = refl
rest_nothing (EndIn s) = refl
rest_nothing (TerminateIn s) = refl
rest_nothing (SetThen p x rest) = ap (SetThen p x) (rest_nothing rest)
rest_nothing (SendThen t a args rest) = ap (SendThen t a args) (rest_nothing rest)
rest_nothing (SendNoneThen set rest) = ap (SendNoneThen set) (rest_nothing rest)
rest_nothing (IfThen f p q rest) = ap (IfThen f p q) (rest_nothing rest)
rest_nothing (WaitThen names rest) = ap (WaitThen names) (rest_nothing rest)
rest_nothing (ChangeThen add o set rest) = ap (ChangeThen add o set) (rest_nothing rest)

-- what is left at a place where this instruction is
left_here : (d : Domain) (b i : ℕ) (instr : Instruction) → IsInstrAt d b i instr → left d (at b i) ≡ with_instr (trees_of d.blocks) instr (left d (at b (i + 1)))
left_here d b i instr there = shown d.blocks b i (Some instr) there

-- what is left at a place without one
nothing_here : (d : Domain) (b i : ℕ) → slice_get (instrs_at d.blocks b) i ≡ None → left d (at b i) ≡ Nothing
nothing_here d b i there = shown d.blocks b i None there

-- a silent instruction is passed over
silent_said : (format : Format) (d : Domain) (instr : Instruction) (rest k : Program) → is_silent format d instr ≡ true
    → said_of_block format d (with_rest (with_instr (trees_of d.blocks) instr rest) k) ≡ said_of_block format d (with_rest rest k)
silent_said Two d instr rest k e = absurd (cc e)
silent_said One d (Assigns p v) rest k e = absurd (cc e)
silent_said One d (Sends (ToOne o) a args) rest k e = absurd (cc e)
silent_said One d (Sends (ToMembers set) a args) rest k e = go (members_at d set) e
  where
    go : (os : List ℕ) → is_nobody os ≡ true → to_some os (SendThen (ToMembers set) a args (quiet d (with_rest rest k))) (quiet d (with_rest rest k)) ≡ quiet d (with_rest rest k)
    go [] e = refl
    go (o ∷ os) e = absurd (cc e)
silent_said One d (SendsToNone set) rest k e = refl
silent_said One d (Chooses f p q) rest k e = absurd (cc e)
silent_said One d (Moves s) rest k e = absurd (cc e)
silent_said One d (Terminates s) rest k e = absurd (cc e)
silent_said One d (Waits names) rest k e = absurd (cc e)
silent_said One d (Changes add o set) rest k e = absurd (cc e)

-- so is one that goes on to the next place, where nothing else follows
silent_passes : (format : Format) (d : Domain) (instr : Instruction) → is_silent format d instr ≡ true → is_instr_passed d instr ≡ true
silent_passes Two d instr e = absurd (cc e)
silent_passes One d (Assigns p v) e = refl
silent_passes One d (Sends t a args) e = refl
silent_passes One d (SendsToNone set) e = refl
silent_passes One d (Chooses f p q) e = absurd (cc e)
silent_passes One d (Moves s) e = absurd (cc e)
silent_passes One d (Terminates s) e = absurd (cc e)
silent_passes One d (Waits names) e = refl
silent_passes One d (Changes add o set) e = refl

second_true : (a b : Bool) → (a && b) ≡ true → b ≡ true
second_true true b e = e
second_true false b e = absurd (cc e)

-- a block that falls through behind an instruction that is passed falls through before it
falls_before : (d : Domain) (instr : Instruction) (rest : Program) → is_instr_passed d instr ≡ true → falls_through rest ≡ true → falls_through (with_instr (trees_of d.blocks) instr rest) ≡ true
falls_before d (Assigns p v) rest e h = h
falls_before d (Sends t a args) rest e h = h
falls_before d (SendsToNone set) rest e h = h
falls_before d (Chooses f p q) rest e h = both_true (falls_through (tree_of_block d p) || falls_through (tree_of_block d q)) (falls_through rest) e h
falls_before d (Moves s) rest e h = absurd (cc e)
falls_before d (Terminates s) rest e h = absurd (cc e)
falls_before d (Waits names) rest e h = h
falls_before d (Changes add o set) rest e h = h

-- what follows a place follows the next
follow_on : (d : Domain) (root b i : ℕ) (instr : Instruction) (later : List Spot) → IsInstrAt d b i instr → is_instr_passed d instr ≡ true → Follow d root (at b i) later → Follow d root (at b (i + 1)) later
follow_on d root b i instr [] there e h = tt
follow_on d root b i instr (q ∷ qs) there e h =
    λ falls. h (ap falls_through (left_here d b i instr there) ∙ falls_before d instr (left d (at b (i + 1))) e falls)

-- and a branch, behind which the next place follows
follow_in : (d : Domain) (root b i : ℕ) (f : Formula) (p q x : ℕ) (later : List Spot) → IsInstrAt d b i (Chooses f p q) → IsPlaceReached d root b i
    → (falls_through (left d (at x 0)) ≡ true → is_instr_passed d (Chooses f p q) ≡ true) → Follow d root (at b i) later → Follow d root (at x 0) (at b (i + 1) ∷ later)
follow_in d root b i f p q x later there reached passes h =
    λ falls. (next d root b i (Chooses f p q) reached there (passes falls), follow_on d root b i (Chooses f p q) later there (passes falls) h)

-- ---- to the instruction that comes next

-- the place behind is reached, and what follows it
abbrev Popped : Domain → ℕ → List Spot → Type 0
Popped d root [] = Unit {0}
Popped d root (q ∷ qs) = IsPlaceReached d root q.block q.index × Follow d root q qs

popped : (d : Domain) (root : ℕ) (p : Spot) (later : List Spot) → left d p ≡ Nothing → Follow d root p later → Popped d root later
popped d root p [] e h = tt
popped d root p (q ∷ qs) e h = h (ap falls_through e)

abbrev Result : Format → Domain → ℕ → Program → Type 0
Result format d root b = (b ≡ Nothing) ⊎ StandsAt format d root b

get_none : (xs : List Instruction) (i : ℕ) → [] ≡ drop i xs → slice_get xs i ≡ None
get_none [] i e = refl
get_none (x ∷ xs) zero e = absurd (cc e)
get_none (x ∷ xs) (suc i) e = get_none xs i e

get_here : (xs : List Instruction) (i : ℕ) (x : Instruction) (rest : List Instruction) → x ∷ rest ≡ drop i xs → (slice_get xs i ≡ Some x) × (rest ≡ drop (suc i) xs)
get_here [] zero x rest e = absurd (cc e)
get_here [] (suc i) x rest e = absurd (cc e)
get_here (y ∷ ys) zero x rest e = (sym (ap Some (cc e)), cc e)
get_here (y ∷ ys) (suc i) x rest e = get_here ys i x rest e

-- from a place on whose block has these instructions left
walk : (format : Format) (d : Domain) (root b : ℕ) (later : List Spot) (prog : Program) → (prog ≡ said_of_block format d (behind d later) → Popped d root later → Result format d root prog)
    → (is : List Instruction) (i : ℕ) → is ≡ drop i (instrs_at d.blocks b) → IsPlaceReached d root b i → Follow d root (at b i) later
    → prog ≡ said_of_block format d (with_rest (left d (at b i)) (behind d later)) → Result format d root prog
walk format d root b later prog over [] i e reached follow is =
    let none = nothing_here d b i (get_none (instrs_at d.blocks b) i e) in
    over (is ∙ ap (λ x. said_of_block format d (with_rest x (behind d later))) none) (popped d root (at b i) later none follow)
walk format d root b later prog over (instr ∷ more) i e reached follow is =
    go (is_silent format d instr) refl
    (λ silent. walk format d root b later prog over more (i + 1) (here.1 ∙ ap (λ n. drop n (instrs_at d.blocks b)) (sym (add-one i)))
    (next d root b i instr reached here.0 (silent_passes format d instr silent))
    (follow_on d root b i instr later here.0 (silent_passes format d instr silent) follow)
    (begins ∙ silent_said format d instr (left d (at b (i + 1))) (behind d later) silent))
  where
    here : (slice_get (instrs_at d.blocks b) i ≡ Some instr) × (more ≡ drop (suc i) (instrs_at d.blocks b))
    here = get_here (instrs_at d.blocks b) i instr more e

    begins : prog ≡ said_of_block format d (with_rest (with_instr (trees_of d.blocks) instr (left d (at b (i + 1)))) (behind d later))
    begins = is ∙ ap (λ x. said_of_block format d (with_rest x (behind d later))) (left_here d b i instr here.0)

    go : (t : Bool) → is_silent format d instr ≡ t → (is_silent format d instr ≡ true → Result format d root prog) → Result format d root prog
    go true silent further = further silent
    go false heard further = inr (record {
      here = at b i;
      later = later;
      reached = reached;
      follow = follow;
      instr = instr;
      there = here.0;
      heard = heard;
      is = begins;
    })

said_nothing : (format : Format) (d : Domain) → said_of_block format d Nothing ≡ Nothing
said_nothing One d = refl
said_nothing Two d = refl

-- where an action stands, or that nothing is left of it
settle : (format : Format) (d : Domain) (root : ℕ) (later : List Spot) (p : Spot) (prog : Program) → IsPlaceReached d root p.block p.index → Follow d root p later
    → prog ≡ said_of_block format d (with_rest (left d p) (behind d later)) → Result format d root prog
settle format d root [] p prog reached follow is =
    walk format d root p.block [] prog (λ e h. inl (e ∙ said_nothing format d)) (drop p.index (instrs_at d.blocks p.block)) p.index refl reached follow is
settle format d root (q ∷ qs) p prog reached follow is =
    walk format d root p.block (q ∷ qs) prog (λ e h. settle format d root qs q prog h.0 h.1 e) (drop p.index (instrs_at d.blocks p.block)) p.index refl reached follow is

-- ---- one move

-- what a move leaves: what is behind the instruction, or a branch of it and then that
abbrev Leaves : Format → Domain → Instruction → Program → Program → Type 0
Leaves format d instr rest b =
    ((b ≡ said_of_block format d rest) × (is_instr_passed d instr ≡ true))
    ⊎ ((f : Formula) × (p q x : ℕ) × (instr ≡ Chooses f p q) × ((x ≡ p) ⊎ (x ≡ q)) × (b ≡ said_of_block format d (with_rest (tree_of_block d x) rest)))

quiet_branch : (d : Domain) (t : Bool) (p q rest : Program) → with_rest (if t then quiet d p else quiet d q) (quiet d rest) ≡ quiet d (with_rest (if t then p else q) rest)
quiet_branch d true p q rest = sym (quiet_rest d p rest)
quiet_branch d false p q rest = sym (quiet_rest d q rest)

-- the branch that was picked
branch_left : (format : Format) (d : Domain) (f : Formula) (p q : ℕ) (t : Bool) (rest b : Program) → b ≡ said_of_block format d (with_rest (if t then tree_of_block d p else tree_of_block d q) rest) → Leaves format d (Chooses f p q) rest b
branch_left format d f p q true rest b is = inr (f, p, q, p, refl, inl refl, is)
branch_left format d f p q false rest b is = inr (f, p, q, q, refl, inr refl, is)

-- a send that a quiet block keeps
sent_left : (d : Domain) (os : List ℕ) (set a : ℕ) (args : List Argument) (rest : Program) (env : Env) (m : Move) (b : Program) (env1 : Env) → is_nobody os ≡ false
    → After d (to_some os (SendThen (ToMembers set) a args rest) rest) env m b env1 → b ≡ rest
sent_left d [] set a args rest env m b env1 e h = absurd (cc e)
sent_left d (o ∷ os) set a args rest env m b env1 e h = h.3

after : (format : Format) (d : Domain) (instr : Instruction) (rest : Program) (env : Env) (m : Move) (b : Program) (env1 : Env) → is_silent format d instr ≡ false
    → After d (said_of_block format d (with_instr (trees_of d.blocks) instr rest)) env m b env1 → Leaves format d instr rest b
after Two d (Assigns p v) rest env m b env1 e h = inl (h.1, refl)
after Two d (Sends t a args) rest env m b env1 e h = inl (h.3, refl)
after Two d (SendsToNone set) rest env m b env1 e h = inl (h.3, refl)
after Two d (Chooses f p q) rest env m b env1 e h = branch_left Two d f p q (is_true_over (members_in d h.0.sets) h.0.readings f) rest b h.3
after Two d (Moves s) rest env m b env1 e h = absurd h
after Two d (Terminates s) rest env m b env1 e h = absurd h
after Two d (Waits names) rest env m b env1 e h = inl (h.3, refl)
after Two d (Changes add o set) rest env m b env1 e h = inl (h.1, refl)
after One d (Assigns p v) rest env m b env1 e h = inl (h.1, refl)
after One d (Sends (ToOne o) a args) rest env m b env1 e h = inl (h.3, refl)
after One d (Sends (ToMembers set) a args) rest env m b env1 e h = inl (sent_left d (members_at d set) set a args (quiet d rest) env m b env1 e h, refl)
after One d (SendsToNone set) rest env m b env1 e h = absurd (cc e)
after One d (Chooses f p q) rest env m b env1 e h =
    branch_left One d f p q (is_true_over (members_in d h.0.sets) h.0.readings f) rest b
    (h.3 ∙ quiet_branch d (is_true_over (members_in d h.0.sets) h.0.readings f) (tree_of_block d p) (tree_of_block d q) rest)
after One d (Moves s) rest env m b env1 e h = absurd h
after One d (Terminates s) rest env m b env1 e h = absurd h
after One d (Waits names) rest env m b env1 e h = inl (h.3, refl)
after One d (Changes add o set) rest env m b env1 e h = inl (h.1, refl)

-- an instruction, and what follows it and then something
instr_rest : (d : Domain) (instr : Instruction) (rest k : Program) → with_rest (with_instr (trees_of d.blocks) instr rest) k ≡ with_instr (trees_of d.blocks) instr (with_rest rest k)
instr_rest d (Assigns p v) rest k = refl
instr_rest d (Sends t a args) rest k = refl
instr_rest d (SendsToNone set) rest k = refl
instr_rest d (Chooses f p q) rest k = refl
instr_rest d (Moves s) rest k = refl
instr_rest d (Terminates s) rest k = refl
instr_rest d (Waits names) rest k = refl
instr_rest d (Changes add o set) rest k = refl

-- one move leads from where an action stands to where it stands
step : (format : Format) (d : Domain) (root : ℕ) (prog : Program) (env : Env) (m : Move) (b : Program) (env1 : Env) → IsSound d → StandsAt format d root prog → After d prog env m b env1 → Stands format d root b
step format d root prog env m b env1 sound s h = go (after format d s.instr (with_rest (left d there) (behind d s.later)) env m b env1 s.heard (subst (λ x. After d x env m b env1) begins h))
  where
    there : Spot
    there = at s.here.block (s.here.index + 1)

    begins : prog ≡ said_of_block format d (with_instr (trees_of d.blocks) s.instr (with_rest (left d there) (behind d s.later)))
    begins = s.is ∙ ap (said_of_block format d) (instr_rest d s.instr (left d there) (behind d s.later))

    reached_in : (f : Formula) (p q x : ℕ) → s.instr ≡ Chooses f p q → (x ≡ p) ⊎ (x ≡ q) → IsPlaceReached d root x 0
    reached_in f p q x is (inl e) = subst (λ y. IsPlaceReached d root y 0) (sym e) (branch d root s.here.block s.here.index f p q s.reached (s.there ∙ ap Some is))
    reached_in f p q x is (inr e) = subst (λ y. IsPlaceReached d root y 0) (sym e) (other d root s.here.block s.here.index f p q s.reached (s.there ∙ ap Some is))

    passes : (f : Formula) (p q x : ℕ) → (x ≡ p) ⊎ (x ≡ q) → falls_through (left d (at x 0)) ≡ true → is_instr_passed d (Chooses f p q) ≡ true
    passes f p q x (inl e) falls = left_or (falls_through (tree_of_block d p)) (falls_through (tree_of_block d q)) (ap (λ y. falls_through (tree_of_block d y)) (sym e) ∙ ap falls_through (sym (left_of_sound d sound x)) ∙ falls)
    passes f p q x (inr e) falls = right_or (falls_through (tree_of_block d p)) (falls_through (tree_of_block d q)) (ap (λ y. falls_through (tree_of_block d y)) (sym e) ∙ ap falls_through (sym (left_of_sound d sound x)) ∙ falls)

    go : Leaves format d s.instr (with_rest (left d there) (behind d s.later)) b → Stands format d root b
    go (inl h) = record {
      here = there;
      later = s.later;
      reached = next d root s.here.block s.here.index s.instr s.reached s.there h.1;
      follow = follow_on d root s.here.block s.here.index s.instr s.later s.there h.1 s.follow;
      is = h.0;
    }
    go (inr (f, p, q, x, is, one, e)) = record {
      here = at x 0;
      later = there ∷ s.later;
      reached = reached_in f p q x is one;
      follow = follow_in d root s.here.block s.here.index f p q x s.later (s.there ∙ ap Some is) s.reached (passes f p q x one) s.follow;
      is = e ∙ ap (λ y. said_of_block format d (with_rest y (with_rest (left d there) (behind d s.later)))) (sym (left_of_sound d sound x));
    }

-- ---- all moves

nothing_after : (d : Domain) (env : Env) (prog : Program) (m : Move) (b : Program) (env1 : Env) → prog ≡ Nothing → After d prog env m b env1 → ⊥
nothing_after d env prog m b env1 is h = subst (λ x. After d x env m b env1) is h

settled : (format : Format) (d : Domain) (root : ℕ) (b : Program) → Stands format d root b → Result format d root b
settled format d root b s = settle format d root s.later s.here b s.reached s.follow s.is

leads : (format : Format) (d : Domain) (root : ℕ) (prog : Program) (env : Env) (made : List Move) (b : Program) (env1 : Env) → IsSound d → Stands format d root prog → Leads d prog env made b env1 → Stands format d root b
leads format d root prog env [] b env1 sound s h = subst (Stands format d root) (sym h.0) s
leads format d root prog env (m ∷ made) b env1 sound s h =
    go (settled format d root prog s) (λ t. leads format d root h.0 h.1 made b env1 sound (step format d root prog env m h.0 h.1 sound t h.2) h.3)
  where
    go : Result format d root prog → (StandsAt format d root prog → Stands format d root b) → Stands format d root b
    go (inl e) further = absurd (nothing_after d env prog m h.0 h.1 e h.2)
    go (inr t) further = further t

found_at : (format : Format) (d : Domain) (root : ℕ) (b : Program) → Result format d root b → (b ≡ Nothing) ⊎ IsAtInstr format d root b
found_at format d root b (inl e) = inl e
found_at format d root b (inr s) = inr (record {
  block = s.here.block;
  index = s.here.index;
  instr = s.instr;
  reached = s.reached;
  there = s.there;
  heard = s.heard;
  behind = with_rest (left d (at s.here.block (s.here.index + 1))) (behind d s.later);
  begins = s.is ∙ ap (said_of_block format d) (instr_rest d s.instr (left d (at s.here.block (s.here.index + 1))) (behind d s.later));
})

pub moves_lead_to_them : MovesLeadToThem
moves_lead_to_them format d root env made b env1 sound h =
    found_at format d root b (settled format d root b (leads format d root (said_of_block format d (tree_of_block d root)) env made b env1 sound start h))
  where
    start : Stands format d root (said_of_block format d (tree_of_block d root))
    start = record {
      here = at root 0;
      later = [];
      reached = first d root;
      follow = tt;
      is = ap (said_of_block format d) (sym (left_of_sound d sound root) ∙ sym (rest_nothing (left d (at root 0))));
    }
