-- A block makes no more moves than it has instructions.
use Rattle.std.proofs.Common.{◌≡◌, ◌∙◌, sym, ap, refl, subst, ℕ, ◌+◌, ◌<◌, ◌≤◌, List, [], ◌∷◌, ◌++◌, append-nil, arith, length, length-append, Some, None, Option, Bool, true, false, if◌then◌else◌}
use Rattle.std.specs.Prelude.{not, nat_eq, IsSomeAnd}
use Rattle.std.proofs.lemmas.Bool.{eqb-true}
use Rattle.sml_domain.specs.declared.value.Value.{Value}
use Rattle.sml_domain.specs.Completing.{Passed as Given}
use Rattle.sml_domain.specs.Domain.{Domain}
use Rattle.sml_domain.specs.Lookups.{members_at, program_at}
use Rattle.std.specs.Option.{option_map_or}
use Rattle.sml_domain.specs.Program.{Target, ToOne, ToMembers, Program, Nothing, SetThen, SendThen, SendNoneThen, IfThen, EndIn, TerminateIn, WaitThen, ChangeThen}
use Rattle.smi_journal_entries.specs.Sets.{Sets, members_in, unchanged}
use Rattle.smi_journal_entries.specs.declared.journal.Format.{Format}
use Rattle.smi_journal_entries.specs.declared.journal.Format.TheVariants.{One, Two}
use Rattle.smi_journal_entries.proofs.Changing.{begin_declared}
use Rattle.smi_meaning.specs.Items.{Post}
use Rattle.smi_meaning.specs.Environment.{Env}
use Rattle.smi_meaning.specs.Conditions.{is_true_over}
use Rattle.smi_meaning.specs.Meaning.{Move, DidSet, DidSend, Wanted, posts_for, targets_of}
use Rattle.smi_meaning.specs.Quiet.{AreUnchanged, IsUnchanged, are_some, heard, is_heard}
use Rattle.smi_meaning.specs.Shown.{shown_moves}
use Rattle.smi_meaning.specs.Steps.{with_rest, After, Leads}
use Rattle.smi_meaning.proofs.Showing.{shown-append}
use Rattle.smi_interp.specs.declared.contact.Contact.{Contact}
use Rattle.smi_interp.specs.declared.contact.Contact.TheVariants.{Local, Send}
use Rattle.smi_interp.specs.Expanded.{posts_in}
use Rattle.smi_interp.specs.Turn.{posted_of, sending_of}
use Rattle.smi_interp.specs.Task.{TaskView, this_program, body, env_before, env_now, IsUnderWay, WantsVerdicts, shown, with_verdicts}
use Rattle.smi_audit_follower.specs.Following.{FollowerView, AreTellable, said_moves}
use Rattle.smi_audit_follower.specs.Passing.{size, fresh_of, is_said, is_sent, HasPassed, ContactStands, Stood}

-- ---- sizes

size_rest : (a k : Program) → size (with_rest a k) ≤ size a + size k
size_rest Nothing k = omega arith
size_rest (EndIn s) k = omega arith
size_rest (TerminateIn s) k = omega arith
size_rest (SetThen p x rest) k = let h = size_rest rest k in omega (arith, h)
size_rest (SendThen ts a args rest) k = let h = size_rest rest k in omega (arith, h)
size_rest (SendNoneThen set rest) k = let h = size_rest rest k in omega (arith, h)
size_rest (IfThen c a b rest) k = let h = size_rest rest k in omega (arith, h)
size_rest (WaitThen names rest) k = let h = size_rest rest k in omega (arith, h)
size_rest (ChangeThen add o set rest) k = let h = size_rest rest k in omega (arith, h)

branch : (t : Bool) (a b : Program) → size (if t then a else b) ≤ size a + size b
branch true a b = omega arith
branch false a b = omega arith

after_less : (d : Domain) (b : Program) (env : Env) (m : Move) (left : Program) (env1 : Env) → After d b env m left env1 → size left < size b
after_less d Nothing env m left env1 h = absurd h
after_less d (EndIn s) env m left env1 h = absurd h
after_less d (TerminateIn s) env m left env1 h = absurd h
after_less d (SetThen p x rest) env m left env1 h = let e = ap size h.1 in omega (arith, e)
after_less d (SendThen ts a args rest) env m left env1 h = let e = ap size h.3 in omega (arith, e)
after_less d (SendNoneThen set rest) env m left env1 h = let e = ap size h.3 in omega (arith, e)
after_less d (IfThen c a b rest) env m left env1 h =
    let e = ap size h.3 in
    let f = size_rest (if is_true_over (members_in d h.0.sets) h.0.readings c then a else b) rest in
    let g = branch (is_true_over (members_in d h.0.sets) h.0.readings c) a b in
    omega (arith, e, f, g)
after_less d (WaitThen names rest) env m left env1 h = let e = ap size h.3 in omega (arith, e)
after_less d (ChangeThen add o set rest) env m left env1 h = let e = ap size h.1 in omega (arith, e)

leads_short : (d : Domain) (b : Program) (env : Env) (ms : List Move) (left : Program) (env1 : Env) → Leads d b env ms left env1 → length ms ≤ size b
leads_short d b env [] left env1 h = omega arith
leads_short d b env (m ∷ ms) left env1 h =
    let a = after_less d b env m h.0 h.1 h.2 in
    let r = leads_short d h.0 h.1 ms left env1 h.3 in
    omega (arith, a, r)

-- a task under way made no more moves than its block has instructions
pub moves_few : (t : TaskView) → IsUnderWay t → length t.turn.moves ≤ size (body t)
moves_few t u = leads_short t.domain (body t) (env_before t) t.turn.moves u.left (env_now t) u.leads

-- ---- moves of which a journal tells

heard_more : (ms : List Move) (m : Move) → heard (ms ++ m ∷ []) ≡ heard ms ++ heard (m ∷ [])
heard_more [] m = refl
heard_more (x ∷ ms) m = go (is_heard x) (heard_more ms m)
  where
    go : (b : Bool) → heard (ms ++ m ∷ []) ≡ heard ms ++ heard (m ∷ [])
        → (if b then x ∷ heard (ms ++ m ∷ []) else heard (ms ++ m ∷ [])) ≡ (if b then x ∷ heard ms else heard ms) ++ heard (m ∷ [])
    go true e = ap (λ l. x ∷ l) e
    go false e = e

pub said_more : (format : Format) (ms : List Move) (m : Move) → said_moves format (ms ++ m ∷ []) ≡ said_moves format ms ++ said_moves format (m ∷ [])
said_more One ms m = heard_more ms m
said_more Two ms m = refl

-- of one that shows nothing, nothing more is shown
silent_more : (format : Format) (ms : List Move) (m : Move) → shown_moves (said_moves format (m ∷ [])) ≡ [] → shown_moves (said_moves format (ms ++ m ∷ [])) ≡ shown_moves (said_moves format ms)
silent_more format ms m none =
    ap shown_moves (said_more format ms m) ∙ shown-append (said_moves format ms) (said_moves format (m ∷ []))
    ∙ ap (λ l. shown_moves (said_moves format ms) ++ l) none ∙ append-nil (shown_moves (said_moves format ms))

unchanged_more : (d : Domain) (ms : List Move) (m : Move) → AreUnchanged d ms → IsUnchanged d m → AreUnchanged d (ms ++ m ∷ [])
unchanged_more d [] m h g = (g, tt)
unchanged_more d (x ∷ ms) m h g = (h.0, unchanged_more d ms m h.1 g)

pub told_more : (format : Format) (d : Domain) (ms : List Move) (m : Move) → AreTellable format d ms → (format ≡ One → IsUnchanged d m) → AreTellable format d (ms ++ m ∷ [])
told_more One d ms m h g = unchanged_more d ms m h (g refl)
told_more Two d ms m h g = tt

-- ---- moves that show nothing

silent_set : (format : Format) (p : ℕ) (v : Value) → shown_moves (said_moves format (DidSet p v ∷ [])) ≡ []
silent_set One p v = refl
silent_set Two p v = refl

-- the same task with other parameters and moves that show as much
pub local_passes : (format : Format) (t u : TaskView) (p : ℕ) (v : Value) → t.pending ≡ None → AreTellable format t.domain t.turn.moves → u ≡ shown t (Local p v) → IsUnderWay u → HasPassed format t u
local_passes format t u p v idle told is way =
    let few : length u.turn.moves ≤ size (body u) = moves_few u way in
    let moves : u.turn.moves ≡ t.turn.moves ++ DidSet p v ∷ [] = ap (λ (x : TaskView). x.turn.moves) is in
    let domain : u.domain ≡ t.domain = ap (λ (x : TaskView). x.domain) is in
    let items = silent_more format t.turn.moves (DidSet p v) (silent_set format p v) in
    record {
      idle = ap (λ (x : TaskView). x.pending) is ∙ idle;
      domain = domain;
      same = ap (fresh_of format) is ∙ ap (λ l. record (fresh_of format t) { shown = l ++ [] }) items;
      told = subst (λ (x : TaskView). AreTellable format x.domain x.turn.moves) (sym is) (told_more format t.domain t.turn.moves (DidSet p v) told (λ e. tt));
      more = ap (λ (l : List Move). length l) moves ∙ length-append t.turn.moves (DidSet p v ∷ []);
      few = few;
    }

not_false : (b : Bool) → not b ≡ false → b ≡ true
not_false true h = refl
not_false false h = absurd (cc h)

-- where no declared set has somebody to send to, nothing is posted
nobody : (d : Domain) (passed : List Given) (to : Target) (a : Option ℕ) → is_sent d to a ≡ false → posts_for d passed (targets_of (members_in d (unchanged d)) to) a ≡ []
nobody d passed to None h = refl
nobody d passed (ToOne o) (Some a) h = absurd (cc h)
nobody d passed (ToMembers set) (Some a) h = go (members_at d set) h (begin_declared d set)
  where
    go : (ms : List ℕ) → not (nat_eq (length ms) 0) ≡ false → members_in d (unchanged d) set ≡ ms → posts_for d passed (members_in d (unchanged d) set) (Some a) ≡ []
    go [] h e = ap (λ l. posts_for d passed l (Some a)) e
    go (x ∷ xs) h e =
        let none : length (x ∷ xs) ≡ 0 = eqb-true (length (x ∷ xs)) 0 (not_false (nat_eq (length (x ∷ xs)) 0) h) in
        absurd (omega (arith, none))

pub unsaid : (format : Format) (d : Domain) (w : Wanted) → is_said format d w ≡ false → posts_in d (unchanged d) w ≡ []
unsaid One d w h = nobody d w.passed w.target w.action h
unsaid Two d w h = absurd (cc h)

posted_none : (posts : List Post) → posted_of posts [] ≡ []
posted_none [] = refl
posted_none (p ∷ ps) = refl

silent_send : (format : Format) (d : Domain) (w : Wanted) → is_said format d w ≡ false → shown_moves (said_moves format (DidSend (sending_of d (unchanged d) w []) ∷ [])) ≡ []
silent_send Two d w h = absurd (cc h)
silent_send One d w h =
    let none : are_some (posted_of (posts_in d (unchanged d) w) []) ≡ false = ap are_some (posted_none (posts_in d (unchanged d) w)) in
    ap (λ b. shown_moves (if b then DidSend (sending_of d (unchanged d) w []) ∷ [] else [])) none

-- nor does a send of which a journal does not tell
pub send_passes : (format : Format) (t mid u : TaskView) (w : Wanted) (sets : Sets) → AreTellable format t.domain t.turn.moves → mid ≡ shown t (Send w) → is_said format t.domain w ≡ false → sets ≡ unchanged t.domain
    → u ≡ with_verdicts mid [] sets → IsUnderWay u → HasPassed format t u
send_passes format t mid u w sets told is said declared sent way =
    let d = t.domain in
    let m : Move = DidSend (sending_of d (unchanged d) w []) in
    let e : u ≡ with_verdicts (shown t (Send w)) [] (unchanged d) = sent ∙ ap (λ k. with_verdicts k [] sets) is ∙ ap (λ s. with_verdicts (shown t (Send w)) [] s) declared in
    let few : length u.turn.moves ≤ size (body u) = moves_few u way in
    let moves : u.turn.moves ≡ t.turn.moves ++ m ∷ [] = ap (λ (x : TaskView). x.turn.moves) e in
    let items = silent_more format t.turn.moves m (silent_send format d w said) in
    record {
      idle = ap (λ (x : TaskView). x.pending) e;
      domain = ap (λ (x : TaskView). x.domain) e;
      same = ap (fresh_of format) e ∙ ap (λ l. record (fresh_of format t) { shown = l ++ [] }) items;
      told = subst (λ (x : TaskView). AreTellable format x.domain x.turn.moves) (sym e) (told_more format d t.turn.moves m told (λ one. begin_declared d));
      more = ap (λ (l : List Move). length l) moves ∙ length-append t.turn.moves (m ∷ []);
      few = few;
    }

-- such a send waits for no verdict
pub wants_none : (format : Format) (t mid : TaskView) (w : Wanted) (sets : Sets) → mid ≡ shown t (Send w) → is_said format t.domain w ≡ false → sets ≡ unchanged t.domain → IsSomeAnd mid.pending (WantsVerdicts mid.domain sets 0)
wants_none format t mid w sets is said declared =
    let e : 0 ≡ length (posts_in t.domain sets w) = sym (ap (λ s. length (posts_in t.domain s w)) declared ∙ ap (λ (ps : List Post). length ps) (unsaid format t.domain w said)) in
    subst (λ (x : TaskView). IsSomeAnd x.pending (WantsVerdicts x.domain sets 0)) (sym is) e

-- a task that waits has shown what it had
pub stays : (format : Format) (t u : TaskView) (c : Contact) → AreTellable format t.domain t.turn.moves → u ≡ record t { pending = Some c } → ContactStands format t.domain (Some c) → Stood format t u
stays format t u c told is h = record {
  stands = subst (λ (x : TaskView). ContactStands format x.domain x.pending) (sym is) h;
  domain = ap (λ (x : TaskView). x.domain) is;
  same = ap (fresh_of format) is;
  told = subst (λ (x : TaskView). AreTellable format x.domain x.turn.moves) (sym is) told;
}

-- one move that shows nothing, and then others
pub stood_on : (format : Format) (t u v : TaskView) → u.domain ≡ t.domain → fresh_of format u ≡ fresh_of format t → Stood format u v → Stood format t v
stood_on format t u v domain same s = record { stands = s.stands; domain = s.domain ∙ domain; same = s.same ∙ same; told = s.told }

-- the size of the block stays with what is seen
pub size_same : (format : Format) (t u : TaskView) → fresh_of format u ≡ fresh_of format t → size (body u) ≡ size (body t)
size_same format t u e = ap (λ (f : FollowerView). size (option_map_or this_program (program_at f.domain f.object f.state f.letter.action) Nothing)) e
