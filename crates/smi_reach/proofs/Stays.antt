-- Objects stay in the states in which they may be.
use Rattle.std.proofs.Common.{◌≡◌, ℕ, Bool, true, false, List, [], ◌∷◌, ◌++◌, Option, Some, None, option_map, refl, ap, sym, ◌∙◌, subst, append-nil, append_assoc, inl, inr}
use Rattle.std.specs.Prelude.{◌==◌, ◌⊎◌, if◌then◌else◌, IfSome, MatchBool}
use Rattle.std.specs.List.{Contains}
use Rattle.std.specs.Option.{option_and_then, option_map_or}
use Rattle.std.proofs.lemmas.Bool.{eqb-true}
use Rattle.std.proofs.lemmas.List.Elements.{All-contains_itself}
use Rattle.sml_domain.specs.declared.value.Value.{Value}
use Rattle.sml_domain.specs.Domain.{Domain, Class, Action, State as Stated}
use Rattle.sml_domain.specs.Lookups.{class_at, associated_at, is_associated, initial_state, dead_state, numbers_state, numbers_action, state_in, action_in, block_in, block_number, tree_of_block, block_at}
use Rattle.sml_domain.proofs.Finds.{found}
use Rattle.smi_journal_entries.specs.declared.journal.Format.{Format}
use Rattle.smi_journal_entries.specs.declared.entry.Entry.{Entry}
use Rattle.smi_journal_entries.specs.declared.entry.Entry.TheVariants.{Start, Post, Wait, Seen, End, Kill, Insert, Remove, NoMember}
use Rattle.smi_journal_entries.specs.declared.entry.ActionEnd.TheVariants.{State, Skipped}
use Rattle.smi_journal_entries.specs.declared.letter.Letter.{Letter}
use Rattle.smi_journal_entries.specs.Words.{open_at, initial_of, dead_of, state_of, state_next, is_killed}
use Rattle.smi_journal_entries.proofs.OneMore.{state_more}
use Rattle.smi_meaning.specs.Environment.{Env}
use Rattle.smi_meaning.specs.Meaning.{Move, Outcome, Through, To, Means, state_left}
use Rattle.smi_meaning.specs.Params.{Running, run_with, running_in, running_at, env_of}
use Rattle.smi_meaning.specs.Legal.{DeviceEnds, BlockEnds, IsRead, MayFollow, IsLegalFrom, IsLegal}
use Rattle.smi_meaning.specs.Quiet.{said_of_block}
use Rattle.smi_meaning.proofs.Journals.{legal_front, stays_killed, is_then_killed}
use Rattle.smi_meaning.proofs.Leaving.{killed_are_dead}
use Rattle.smi_meaning.proofs.Picked.{same_some}
use Rattle.smi_reach.specs.Falling.{ends_of}
use Rattle.smi_reach.specs.States.{MayBeIn, begins, ends, ObjectsAreInThem, EndsNameThem, ReadingsNameThem}
use Rattle.smi_reach.proofs.Falls.{ends_as, said_ends}

-- the state of a class that is found is one of its states, under that number
state_there : (s : ℕ) (c : Class) → IfSome (state_in s c) (λ x. Contains c.states x × ((x.number == s) ≡ true))
state_there s c = found (Contains c.states) (numbers_state s) c.states (All-contains_itself c.states)

-- and the action of a state
action_there : (a : ℕ) (x : Stated) → IfSome (action_in a x) (λ y. Contains x.actions y × ((y.number == a) ≡ true))
action_there a x = found (Contains x.actions) (numbers_action a) x.actions (All-contains_itself x.actions)

-- a state in which a declared action ends
goes_on : (d : Domain) (c : Class) (s a b t : ℕ) → option_and_then (block_in a) (state_in s c) ≡ Some b → MayBeIn d c s → Contains (ends_of (tree_of_block d b)) t → MayBeIn d c t
goes_on d c s a b t is may has = go (state_in s c) (state_there s c) is
  where
    of_action : (x : Stated) → Contains c.states x → (x.number == s) ≡ true → (y : Option Action) → IfSome y (λ y. Contains x.actions y × ((y.number == a) ≡ true)) → option_map block_number y ≡ Some b → MayBeIn d c t
    of_action x there number None h is = absurd (cc is)
    of_action x there number (Some y) h is =
        ends d c x y t there h.0 (subst (MayBeIn d c) (sym (eqb-true x.number s number)) may)
        (subst (λ n. Contains (ends_of (tree_of_block d n)) t) (sym (same_some y.block b is)) has)

    go : (x : Option Stated) → IfSome x (λ x. Contains c.states x × ((x.number == s) ≡ true)) → option_and_then (block_in a) x ≡ Some b → MayBeIn d c t
    go None h is = absurd (cc is)
    go (Some x) h is = of_action x h.0 h.1 (action_in a x) (action_there a x) is

-- the state in which what runs at an object ends
run_ends : (format : Format) (d : Domain) (o : ℕ) (J : List Entry) (c : Class) (own : List Value) (run : Running) (ms : List Move) (env2 : Env) (t : ℕ) → class_at d o ≡ Some c → MayBeIn d c (state_of d o J) → running_at format d o J ≡ Some run
    → Means d run.program (env_of own run) ms env2 (To t) → MayBeIn d c t
run_ends format d o J c own run ms env2 t of may runs m = go (open_at o J) runs
  where
    block : (l : Letter) (b : Option ℕ) → block_at d o (state_of d o J) l.action ≡ b → option_map (run_with l.args) (option_map (said_of_block format d) (option_map (tree_of_block d) b)) ≡ Some run → MayBeIn d c t
    block l None is e = absurd (cc e)
    block l (Some b) is e =
        let same : run_with l.args (said_of_block format d (tree_of_block d b)) ≡ run = same_some (run_with l.args (said_of_block format d (tree_of_block d b))) run e in
        let has : Contains (ends_of (said_of_block format d (tree_of_block d b))) t =
        ends_as d (said_of_block format d (tree_of_block d b)) (env_of own run) ms env2 (To t) (subst (λ x. Means d x.program (env_of own run) ms env2 (To t)) (sym same) m) in
        let declared : option_and_then (block_in l.action) (state_in (state_of d o J) c) ≡ Some b =
        ap (λ k. option_and_then (block_in l.action) (option_and_then (state_in (state_of d o J)) k)) (sym of) ∙ is in
        goes_on d c (state_of d o J) l.action b t declared may (subst (λ l. Contains l t) (said_ends format d (tree_of_block d b)) has)

    go : (l : Option Letter) → option_and_then (running_in format d o J) l ≡ Some run → MayBeIn d c t
    go None e = absurd (cc e)
    go (Some l) e = block l (block_at d o (state_of d o J) l.action) refl e

-- so an end names one
pub end_names : (format : Format) (d : Domain) (J : List Entry) (o s : ℕ) (c : Class) → class_at d o ≡ Some c → c.associated ≡ false → MayBeIn d c (state_of d o J) → MayFollow format d J (End o (State s)) → MayBeIn d c s
end_names format d J o s c of logical may h =
    subst (MayBeIn d c) (sym at.state) (left at.outcome at.done.means)
  where
    logical_at : associated_at d o ≡ false
    logical_at = ap (λ k. option_map_or is_associated k false) of ∙ logical

    at : BlockEnds format d J o s
    at = subst (λ b. MatchBool b (DeviceEnds format d J o s) (BlockEnds format d J o s)) logical_at h

    left : (r : Outcome) → Means d at.done.run.program (env_of at.own at.done.run) at.done.moves at.env2 r → MayBeIn d c (state_left (state_of d o J) r)
    left Through m = may
    left (To t) m = run_ends format d o J c at.own at.done.run at.done.moves at.env2 t of may at.done.runs m

-- ---- journals

picked : (P : ℕ → Type 0) (b : Bool) (x y : ℕ) → P x → P y → P (if b then x else y)
picked P true x y h g = h
picked P false x y h g = g

-- one more entry that does not kill the object
stays_next : (format : Format) (d : Domain) (J : List Entry) (e : Entry) (o : ℕ) (c : Class) → class_at d o ≡ Some c → c.associated ≡ false → MayBeIn d c (state_of d o J) → MayFollow format d J e → is_killed o (J ++ e ∷ []) ≡ false
    → MayBeIn d c (state_next o (dead_of d o) (state_of d o J) e)
stays_next format d J (Start x s n a args) o c of logical was h alive = picked (MayBeIn d c) (o == x) (state_of d o J) (state_of d o J) was was
stays_next format d J (Post x t v a args) o c of logical was h alive = picked (MayBeIn d c) (o == x) (state_of d o J) (state_of d o J) was was
stays_next format d J (Wait x) o c of logical was h alive = picked (MayBeIn d c) (o == x) (state_of d o J) (state_of d o J) was was
stays_next format d J (Seen x rs) o c of logical was h alive = picked (MayBeIn d c) (o == x) (state_of d o J) (state_of d o J) was was
stays_next format d J (Insert x u set) o c of logical was h alive = picked (MayBeIn d c) (o == x) (state_of d o J) (state_of d o J) was was
stays_next format d J (Remove x u set) o c of logical was h alive = picked (MayBeIn d c) (o == x) (state_of d o J) (state_of d o J) was was
stays_next format d J (NoMember x set) o c of logical was h alive = picked (MayBeIn d c) (o == x) (state_of d o J) (state_of d o J) was was
stays_next format d J (End x Skipped) o c of logical was h alive = picked (MayBeIn d c) (o == x) (state_of d o J) (state_of d o J) was was
stays_next format d J (Kill x k) o c of logical was h alive = go (o == x) refl
  where
    go : (b : Bool) → (o == x) ≡ b → MayBeIn d c (if o == x then dead_of d o else state_of d o J)
    go false e = subst (λ b. MayBeIn d c (if b then dead_of d o else state_of d o J)) (sym e) was
    go true e =
        absurd (cc (sym alive ∙ subst (λ y. is_killed o (J ++ Kill y k ∷ []) ≡ true) (eqb-true o x e) (is_then_killed o J k)))
stays_next format d J (End x (State s)) o c of logical was h alive = go (o == x) refl
  where
    go : (b : Bool) → (o == x) ≡ b → MayBeIn d c (if o == x then s else state_of d o J)
    go false e = subst (λ b. MayBeIn d c (if b then s else state_of d o J)) (sym e) was
    go true e =
        let here : MayFollow format d J (End o (State s)) = subst (λ y. MayFollow format d J (End y (State s))) (sym (eqb-true o x e)) h in
        subst (λ b. MayBeIn d c (if b then s else state_of d o J)) (sym e) (end_names format d J o s c of logical was here)

alive_before : (o : ℕ) (J : List Entry) (e : Entry) → is_killed o (J ++ e ∷ []) ≡ false → is_killed o J ≡ false
alive_before o J e alive = go (is_killed o J) refl
  where
    go : (b : Bool) → is_killed o J ≡ b → b ≡ false
    go false q = refl
    go true q = absurd (cc (sym alive ∙ stays_killed o J e q))

stays_from : (format : Format) (d : Domain) (past es : List Entry) (o : ℕ) (c : Class) → class_at d o ≡ Some c → c.associated ≡ false → (is_killed o past ≡ false → MayBeIn d c (state_of d o past)) → IsLegalFrom format d past es
    → is_killed o (past ++ es) ≡ false → MayBeIn d c (state_of d o (past ++ es))
stays_from format d past [] o c of logical was h alive =
    subst (λ J. MayBeIn d c (state_of d o J)) (sym (append-nil past)) (was (subst (λ J. is_killed o J ≡ false) (append-nil past) alive))
stays_from format d past (e ∷ es) o c of logical was h alive =
    subst (λ J. MayBeIn d c (state_of d o J)) (append_assoc past (e ∷ []) es)
    (stays_from format d (past ++ e ∷ []) es o c of logical next h.1 (subst (λ J. is_killed o J ≡ false) (sym (append_assoc past (e ∷ []) es)) alive))
  where
    next : is_killed o (past ++ e ∷ []) ≡ false → MayBeIn d c (state_of d o (past ++ e ∷ []))
    next alive1 =
        subst (MayBeIn d c) (sym (state_more o (initial_of d o) (dead_of d o) past e))
        (stays_next format d past e o c of logical (was (alive_before o past e alive1)) h.0.1 alive1)

pub objects_are_in_them : ObjectsAreInThem
objects_are_in_them format d J o c of logical h alive = stays_from format d [] J o c of logical (λ q. first) h alive
  where
    first : MayBeIn d c (initial_of d o)
    first = subst (λ k. MayBeIn d c (option_map_or initial_state k 0)) (sym of) (begins d c)

-- an object at which something ends is not killed
ending_is_alive : (format : Format) (d : Domain) (J : List Entry) (o s : ℕ) → IsLegal format d J → associated_at d o ≡ false → MayFollow format d J (End o (State s)) → is_killed o J ≡ false
ending_is_alive format d J o s legal logical h = go (is_killed o J) refl
  where
    at : BlockEnds format d J o s
    at = subst (λ b. MatchBool b (DeviceEnds format d J o s) (BlockEnds format d J o s)) logical h

    go : (b : Bool) → is_killed o J ≡ b → b ≡ false
    go false q = refl
    go true q =
        let none : running_at format d o J ≡ None = ap (option_and_then (running_in format d o J)) (killed_are_dead format d J o legal q).0 in
        absurd (cc (sym none ∙ at.done.runs))

pub ends_name_them : EndsNameThem
ends_name_them format d front back o s c of logical h =
    let legal = legal_front format d front (End o (State s) ∷ back) h in
    let logical_at : associated_at d o ≡ false = ap (λ k. option_map_or is_associated k false) of ∙ logical in
    let alive = ending_is_alive format d front o s legal.0 logical_at legal.1.0.1 in
    end_names format d front o s c of logical (objects_are_in_them format d front o c of logical legal.0 alive) legal.1.0.1

pub readings_name_them : ReadingsNameThem
readings_name_them format d front back x readings r c of logical h has = go (is_killed r.object front) refl
  where
    legal : IsLegal format d front × IsLegalFrom format d front (Seen x readings ∷ back)
    legal = legal_front format d front (Seen x readings ∷ back) h

    read : r.state ≡ state_of d r.object front
    read = (subst (IsRead d front x) has.2 (legal.1.0.1.1 has.0 r has.1)).1

    go : (b : Bool) → is_killed r.object front ≡ b → MayBeIn d c r.state ⊎ (r.state ≡ c.dead)
    go false q = inl (subst (MayBeIn d c) (sym read) (objects_are_in_them format d front r.object c of logical legal.0 q))
    go true q =
        inr (read ∙ (killed_are_dead format d front r.object legal.0 q).1 ∙ ap (λ k. option_map_or dead_state k 0) of)
