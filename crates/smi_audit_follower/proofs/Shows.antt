-- What a contact that is next lets an action show.
use Rattle.std.proofs.Common.{◌≡◌, ◌∙◌, sym, ap, refl, subst, ℕ, Bool, true, List, [], ◌∷◌, ◌++◌, append_assoc, append-nil, map, arith, length, Some, None, Option, if◌then◌else◌}
use Rattle.std.specs.Prelude.{slice_get}
use Rattle.sml_domain.specs.declared.value.Value.{Value}
use Rattle.sml_domain.specs.Program.{Subject, Target, ToMembers, Program, Nothing, SetThen, SendThen, SendNoneThen, IfThen, EndIn, TerminateIn, WaitThen, ChangeThen}
use Rattle.sml_domain.specs.Domain.{Domain}
use Rattle.sml_domain.specs.Truth.{Reading}
use Rattle.smi_journal_entries.specs.Sets.{Sets, members_in}
use Rattle.smi_journal_entries.specs.declared.entry.Verdict.{Verdict}
use Rattle.smi_journal_entries.specs.declared.entry.Verdict.TheVariants.{Full}
use Rattle.smi_journal_entries.specs.declared.journal.Format.{Format}
use Rattle.smi_journal_entries.specs.declared.journal.Format.TheVariants.{One, Two}
use Rattle.smi_journal_entries.specs.Words.{Item, Saw, Sent, HadNone, Turned}
use Rattle.smi_meaning.specs.Items.{Post, Posted, item_of, sent_shown}
use Rattle.smi_meaning.specs.Environment.{Env}
use Rattle.smi_meaning.specs.Conditions.{asked_in, object_read}
use Rattle.smi_meaning.specs.Meaning.{Wanted, Move, DidSend, DidRead, DidChange, Means, want, want_nothing, post_of, state_left}
use Rattle.smi_meaning.specs.Quiet.{IsUnchanged, are_some, is_heard, quiet, said_of_block}
use Rattle.smi_meaning.specs.Shown.{Question, ToPost, ToHave, ToRead, ToChange, AgreeOnSets, BeginsToShow, items_of, question_in, shown_moves}
use Rattle.smi_meaning.specs.Steps.{After, Leads}
use Rattle.smi_meaning.proofs.Asking.{asks_one, ends_or_asks}
use Rattle.smi_meaning.proofs.Blocks.{leads_in, leads_more, some_goes_on}
use Rattle.smi_meaning.proofs.Naming.{condition_names}
use Rattle.smi_meaning.proofs.Quieted.{quiet_leads}
use Rattle.smi_meaning.proofs.Showing.{shown-append}
use Rattle.smi_interp.specs.declared.contact.Contact.{Contact}
use Rattle.smi_interp.specs.declared.contact.Contact.TheVariants as named
use Rattle.smi_interp.specs.Cursor.{first_contact}
use Rattle.smi_interp.specs.Expanded.{posts_in, objects_by_names}
use Rattle.smi_interp.specs.Turn.{posted_of, readings_of, sending_of}
use Rattle.smi_interp.specs.Task.{TaskView, HasLeft, body, env_before, env_now, outcome_of}
use Rattle.smi_audit_follower.specs.Following.{FollowerView, AreTellable, MayTell, follower_block, follower_env, said_moves, seen_of, GoesBy, MayShow, Asks, EndsIn}
use Rattle.smi_audit_follower.proofs.Objects.{objects_same}

-- after its moves, of which a journal of a format may tell, this contact is the first of what is left of a task's
-- action
pub record Stood (format : Format) (t : TaskView) (contact : Contact) : Type 0 where
  pub left : Program
  pub leads : HasLeft t left
  pub asks : contact ≡ first_contact left (env_now t)
  pub told : AreTellable format t.domain t.turn.moves

-- ---- moves, as a journal of a format tells of them

pub said_leads : (format : Format) (d : Domain) (b : Program) (env : Env) (ms : List Move) (left : Program) (env1 : Env) → AreTellable format d ms → Leads d b env ms left env1
    → Leads d (said_of_block format d b) env (said_moves format ms) (said_of_block format d left) env1
said_leads One d b env ms left env1 told h = quiet_leads d b env ms left env1 h told
said_leads Two d b env ms left env1 told h = h

-- a move of which a journal tells
abbrev pub IsTold : Format → Domain → Move → Type 0
IsTold One d m = IsUnchanged d m × (is_heard m ≡ true)
IsTold Two d m = Unit {0}

pub said_after : (format : Format) (d : Domain) (left : Program) (env : Env) (m : Move) (l2 : Program) (e2 : Env) → IsTold format d m → After d left env m l2 e2
    → (mid : Program) × (e : Env) × After d (said_of_block format d left) env m mid e
said_after Two d left env m l2 e2 told h = (l2, e2, h)
said_after One d left env m l2 e2 told h =
    let one = quiet_leads d left env (m ∷ []) l2 e2 (l2, e2, h, (refl, refl)) (told.0, tt) in
    let two = subst (λ b. Leads d (quiet d left) env (if b then m ∷ [] else []) (quiet d l2) e2) told.1 one in
    (two.0, two.1, two.2)

around : (xs before : List Item) (item : Item) (behind more : List Item) → (xs ++ ((before ++ item ∷ behind) ++ [])) ++ more ≡ ((xs ++ before) ++ item ∷ []) ++ (behind ++ more)
around xs before item behind more =
    ap (λ l. (xs ++ l) ++ more) (append-nil (before ++ item ∷ behind)) ∙ append_assoc xs (before ++ item ∷ behind) more
    ∙ ap (λ l. xs ++ l) (append_assoc before (item ∷ behind) more)
    ∙ sym (append_assoc (xs ++ before) (item ∷ []) (behind ++ more) ∙ append_assoc xs before (item ∷ (behind ++ more)))

-- a move that may come next may be shown, item by item
shows : (d : Domain) (b : Program) (env : Env) (made : List Move) (left : Program) (env1 : Env) (m : Move) (l2 : Program) (e2 : Env) (before : List Item) (item : Item) (behind : List Item)
    → Leads d b env made left env1 → After d left env1 m l2 e2 → items_of m ≡ before ++ item ∷ behind → BeginsToShow d b env ((shown_moves made ++ before) ++ item ∷ [])
shows d b env made left env1 m l2 e2 before item behind h g is =
    let l = leads_more d b env made left env1 m l2 e2 h g in
    let s = some_goes_on d b env (made ++ m ∷ []) l2 e2 l in
    let e1 : shown_moves ((made ++ m ∷ []) ++ s.0) ≡ (shown_moves made ++ (items_of m ++ [])) ++ shown_moves s.0 =
    shown-append (made ++ m ∷ []) s.0 ∙ ap (λ xs. xs ++ shown_moves s.0) (shown-append made (m ∷ [])) in
    ((made ++ m ∷ []) ++ s.0, s.1, s.2, behind ++ shown_moves s.0, s.3, e1 ∙ ap (λ xs. (shown_moves made ++ (xs ++ [])) ++ shown_moves s.0) is ∙ around (shown_moves made) before item behind (shown_moves s.0))

-- ---- what a block does that begins with a contact

pub after_sends : (d : Domain) (left : Program) (env : Env) (sets : Sets) (w : Wanted) (vs : List Verdict) → named.Send w ≡ first_contact left env → length vs ≡ length (posts_in d sets w)
    → (l2 : Program) × After d left env (DidSend (sending_of d sets w vs)) l2 env
after_sends d (SendThen t a args rest) env sets w vs h e =
    let is : w ≡ want t a args env = cc h in
    (rest, (sending_of d sets w vs, refl, (ap (λ x. x.target) is, posts_posted (posts_in d sets w) vs e ∙ ap (posts_in d sets) is), refl, refl))
  where
    posts_posted : (ps : List Post) (vs : List Verdict) → length vs ≡ length ps → map post_of (posted_of ps vs) ≡ ps
    posts_posted [] vs e = refl
    posts_posted (p ∷ ps) [] e = absurd (omega arith)
    posts_posted (p ∷ ps) (v ∷ vs) e = ap (λ qs. p ∷ qs) (posts_posted ps vs (omega arith))
after_sends d (SendNoneThen set rest) env sets w vs h e =
    let is : w ≡ want_nothing set = cc h in
    (rest, (sending_of d sets w vs, refl, (ap (λ x. x.target) is, ap (λ x. posted_of (posts_in d sets x) vs) is), refl, refl))
after_sends d Nothing env sets w vs h e = absurd (cc h)
after_sends d (SetThen q x rest) env sets w vs h e = absurd (cc h)
after_sends d (IfThen t x y rest) env sets w vs h e = absurd (cc h)
after_sends d (EndIn s) env sets w vs h e = absurd (cc h)
after_sends d (TerminateIn s) env sets w vs h e = absurd (cc h)
after_sends d (WaitThen names rest) env sets w vs h e = absurd (cc h)
after_sends d (ChangeThen add o set rest) env sets w vs h e = absurd (cc h)

after_reads : (d : Domain) (left : Program) (env : Env) (sets : Sets) (ns : List Subject) (readings : List Reading) → named.Read ns ≡ first_contact left env → map object_read readings ≡ objects_by_names d sets ns
    → (l2 : Program) × After d left env (DidRead (record { sets = sets; readings = readings })) l2 env
after_reads d (IfThen t x y rest) env sets ns readings h e =
    let is : ns ≡ asked_in t = cc h in
    (_, (record { sets = sets; readings = readings }, refl, e ∙ ap (objects_by_names d sets) is ∙ condition_names (members_in d sets) t, refl, refl))
after_reads d (WaitThen names rest) env sets ns readings h e =
    let is : ns ≡ names = cc h in
    (rest, (record { sets = sets; readings = readings }, refl, e ∙ ap (objects_by_names d sets) is, refl, refl))
after_reads d Nothing env sets ns readings h e = absurd (cc h)
after_reads d (SetThen q x rest) env sets ns readings h e = absurd (cc h)
after_reads d (SendThen t a args rest) env sets ns readings h e = absurd (cc h)
after_reads d (SendNoneThen set rest) env sets ns readings h e = absurd (cc h)
after_reads d (EndIn s) env sets ns readings h e = absurd (cc h)
after_reads d (TerminateIn s) env sets ns readings h e = absurd (cc h)
after_reads d (ChangeThen add o set rest) env sets ns readings h e = absurd (cc h)

after_changes : (d : Domain) (left : Program) (env : Env) (add : Bool) (o set : ℕ) → named.Change add o set ≡ first_contact left env
    → (l2 : Program) × After d left env (DidChange add o set) l2 env
after_changes d (ChangeThen a p t rest) env add o set h =
    let x : add ≡ a = cc h in
    let y : o ≡ p = cc h in
    let z : set ≡ t = cc h in
    (rest, ((λ i. DidChange (x i) (y i) (z i)), refl, refl))
after_changes d Nothing env add o set h = absurd (cc h)
after_changes d (SetThen q x rest) env add o set h = absurd (cc h)
after_changes d (SendThen t a args rest) env add o set h = absurd (cc h)
after_changes d (SendNoneThen s rest) env add o set h = absurd (cc h)
after_changes d (IfThen t x y rest) env add o set h = absurd (cc h)
after_changes d (EndIn s) env add o set h = absurd (cc h)
after_changes d (TerminateIn s) env add o set h = absurd (cc h)
after_changes d (WaitThen names rest) env add o set h = absurd (cc h)

-- ---- one question

behind_all : (xs : List Item) (x : Item) (more : List Item) → (xs ++ x ∷ []) ++ more ≡ xs ++ x ∷ more
behind_all xs x more = append_assoc xs (x ∷ []) more

-- what two meanings that show the same so far show next, by the same members, asks the same
one_question : (f : FollowerView) (x y : Item) → MayShow f x → MayShow f y → AgreeOnSets x y → question_in x ≡ question_in y
one_question f x y a b agree =
    asks_one f.domain (follower_block f) (follower_env f) a.0 b.0 a.1 b.1 a.2 b.2 f.shown x a.3 y b.3 a.4 b.4
    (a.5 ∙ behind_all f.shown x a.3) (b.5 ∙ behind_all f.shown y b.3) agree

-- ---- a send

-- the verdicts that came, and any for the posts after them
abbrev pub fill : List Post → List Verdict → List Verdict
fill [] vs = []
fill (p ∷ ps) [] = Full ∷ fill ps []
fill (p ∷ ps) (v ∷ vs) = v ∷ fill ps vs

pub length-fill : (posts : List Post) (vs : List Verdict) → length (fill posts vs) ≡ length posts
length-fill [] vs = refl
length-fill (p ∷ ps) [] = let h = length-fill ps [] in omega (arith, h)
length-fill (p ∷ ps) (v ∷ vs) = let h = length-fill ps vs in omega (arith, h)

-- posts show those that have verdicts, then the next with its own, and then more
filled : (sets : Sets) (posts : List Post) (vs : List Verdict) (x : Posted) → slice_get posts (length vs) ≡ Some x.post
    → (rest : List Item) × (map (item_of sets) (posted_of posts (fill posts (vs ++ x.verdict ∷ []))) ≡ map (item_of sets) (posted_of posts vs) ++ (item_of sets x ∷ rest))
filled sets [] vs x h = let e : None ≡ Some x.post = h in absurd (cc)
filled sets (p ∷ ps) [] x h =
    let e : p ≡ x.post = cc in
    (map (item_of sets) (posted_of ps (fill ps [])), ap (λ q. item_of sets (record { post = q; verdict = x.verdict }) ∷ map (item_of sets) (posted_of ps (fill ps []))) e)
filled sets (p ∷ ps) (v ∷ vs) x h =
    let r = filled sets ps vs x h in
    (r.0, ap (λ l. item_of sets (record { post = p; verdict = v }) ∷ l) r.1)

pub some_filled : (posts : List Post) (n : ℕ) (x : Post) (vs : List Verdict) → slice_get posts n ≡ Some x → are_some (posted_of posts (fill posts vs)) ≡ true
some_filled [] n x vs h = let e : None ≡ Some x = h in absurd (cc)
some_filled (p ∷ ps) n x [] h = refl
some_filled (p ∷ ps) n x (v ∷ vs) h = refl

some_shown : (sets : Sets) (to : Target) (ps : List Posted) → are_some ps ≡ true → sent_shown sets to ps ≡ map (item_of sets) ps
some_shown sets to [] h = absurd (cc h)
some_shown sets to (p ∷ ps) h = refl

pub told_sends : (format : Format) (d : Domain) (sets : Sets) (w : Wanted) (vs : List Verdict) → MayTell format d sets → are_some (posted_of (posts_in d sets w) vs) ≡ true → IsTold format d (DidSend (sending_of d sets w vs))
told_sends One d sets w vs tells h = (tells, h)
told_sends Two d sets w vs tells h = tt

-- the next post may be shown with any verdict
pub send_shows : (format : Format) (t : TaskView) (w : Wanted) (sets : Sets) (vs : List Verdict) (x : Posted) → Stood format t (named.Send w) → MayTell format t.domain sets
    → slice_get (posts_in t.domain sets w) (length vs) ≡ Some x.post → MayShow (seen_of format t sets (posts_in t.domain sets w) vs) (item_of sets x)
send_shows format t w sets vs x s tells at =
    let d = t.domain in
    let posts = posts_in d sets w in
    let ws = fill posts (vs ++ x.verdict ∷ []) in
    let some : are_some (posted_of posts ws) ≡ true = some_filled posts (length vs) x.post (vs ++ x.verdict ∷ []) at in
    let m : Move = DidSend (sending_of d sets w ws) in
    let a = after_sends d s.left (env_now t) sets w ws s.asks (length-fill posts (vs ++ x.verdict ∷ [])) in
    let b = said_after format d s.left (env_now t) m a.0 (env_now t) (told_sends format d sets w ws tells some) a.1 in
    let f = filled sets posts vs x at in
    shows d (said_of_block format d (body t)) (env_before t) (said_moves format t.turn.moves) (said_of_block format d s.left) (env_now t) m b.0 b.1 (map (item_of sets) (posted_of posts vs)) (item_of sets x) f.0
    (said_leads format d (body t) (env_before t) t.turn.moves s.left (env_now t) s.told s.leads) b.2 (some_shown sets w.target (posted_of posts ws) some ∙ f.1)

-- a post with any verdict
abbrev pub unjudged : Post → Posted
unjudged p = record { post = p; verdict = Full }

-- a `do` asks for its next post
pub send_asks : (format : Format) (t : TaskView) (w : Wanted) (sets : Sets) (vs : List Verdict) (p : Post) → Stood format t (named.Send w) → MayTell format t.domain sets
    → slice_get (posts_in t.domain sets w) (length vs) ≡ Some p → Asks (seen_of format t sets (posts_in t.domain sets w) vs) sets (ToPost p)
send_asks format t w sets vs p s tells at = λ item goes. (out item goes, into item goes)
  where
    out : (item : Item) → GoesBy sets item → MayShow (seen_of format t sets (posts_in t.domain sets w) vs) item → question_in item ≡ ToPost p
    out item goes h = one_question (seen_of format t sets (posts_in t.domain sets w) vs) item (item_of sets (unjudged p)) h (send_shows format t w sets vs (unjudged p) s tells at) goes

    into : (item : Item) → GoesBy sets item → question_in item ≡ ToPost p → MayShow (seen_of format t sets (posts_in t.domain sets w) vs) item
    into (Sent by target v a args) goes e =
        let k : record { target = target; action = a; args = args } ≡ p = cc e in
        subst (λ z. MayShow (seen_of format t sets (posts_in t.domain sets w) vs) (Sent z target v a args)) (sym goes)
        (send_shows format t w sets vs (record { post = record { target = target; action = a; args = args }; verdict = v }) s tells (at ∙ ap (λ (q : Post). Some q) (sym k)))
    into (HadNone by set) goes e = absurd (cc e)
    into (Saw k) goes e = absurd (cc e)
    into (Turned add o set) goes e = absurd (cc e)

-- ---- nobody to send to

-- where a set has no member, that is shown
pub none_shows : (t : TaskView) (w : Wanted) (sets by : Sets) (set : ℕ) → Stood Two t (named.Send w) → w.target ≡ ToMembers set → posts_in t.domain sets w ≡ []
    → MayShow (seen_of Two t by [] []) (HadNone sets set)
none_shows t w sets by set s to none =
    let d = t.domain in
    let m : Move = DidSend (sending_of d sets w []) in
    let a = after_sends d s.left (env_now t) sets w [] s.asks (sym (ap (λ (ps : List Post). length ps) none)) in
    let items : items_of m ≡ HadNone sets set ∷ [] = ap (λ ps. sent_shown sets w.target (posted_of ps [])) none ∙ ap (λ x. sent_shown sets x []) to in
    shows d (body t) (env_before t) t.turn.moves s.left (env_now t) m a.0 (env_now t) [] (HadNone sets set) [] s.leads a.1 items

pub none_asks : (t : TaskView) (w : Wanted) (sets by : Sets) (set : ℕ) → Stood Two t (named.Send w) → w.target ≡ ToMembers set → posts_in t.domain sets w ≡ []
    → Asks (seen_of Two t by [] []) sets (ToHave set)
none_asks t w sets by set s to none = λ item goes. (out item goes, into item goes)
  where
    out : (item : Item) → GoesBy sets item → MayShow (seen_of Two t by [] []) item → question_in item ≡ ToHave set
    out item goes h = one_question (seen_of Two t by [] []) item (HadNone sets set) h (none_shows t w sets by set s to none) goes

    into : (item : Item) → GoesBy sets item → question_in item ≡ ToHave set → MayShow (seen_of Two t by [] []) item
    into (Sent z target v a args) goes e = absurd (cc e)
    into (HadNone z other) goes e =
        let k : other ≡ set = cc e in
        subst (λ z. MayShow (seen_of Two t by [] []) (HadNone z other)) (sym goes) (subst (λ z. MayShow (seen_of Two t by [] []) (HadNone sets z)) (sym k) (none_shows t w sets by set s to none))
    into (Saw k) goes e = absurd (cc e)
    into (Turned add o x) goes e = absurd (cc e)

-- ---- a read

told_reads : (format : Format) (d : Domain) (sets : Sets) (readings : List Reading) → MayTell format d sets → IsTold format d (DidRead (record { sets = sets; readings = readings }))
told_reads One d sets readings tells = (tells, refl)
told_reads Two d sets readings tells = tt

-- an `if` and a `wait` show their objects in any states
pub read_shows : (format : Format) (t : TaskView) (ns : List Subject) (sets by : Sets) (readings : List Reading) → Stood format t (named.Read ns) → MayTell format t.domain sets
    → map object_read readings ≡ objects_by_names t.domain sets ns → MayShow (seen_of format t by [] []) (Saw (record { sets = sets; readings = readings }))
read_shows format t ns sets by readings s tells e =
    let d = t.domain in
    let m : Move = DidRead (record { sets = sets; readings = readings }) in
    let a = after_reads d s.left (env_now t) sets ns readings s.asks e in
    let b = said_after format d s.left (env_now t) m a.0 (env_now t) (told_reads format d sets readings tells) a.1 in
    shows d (said_of_block format d (body t)) (env_before t) (said_moves format t.turn.moves) (said_of_block format d s.left) (env_now t) m b.0 b.1 [] (Saw (record { sets = sets; readings = readings })) []
    (said_leads format d (body t) (env_before t) t.turn.moves s.left (env_now t) s.told s.leads) b.2 refl

pub read_asks : (format : Format) (t : TaskView) (ns : List Subject) (sets by : Sets) → Stood format t (named.Read ns) → MayTell format t.domain sets
    → Asks (seen_of format t by [] []) sets (ToRead (objects_by_names t.domain sets ns))
read_asks format t ns sets by s tells = λ item goes. (out item goes, into item goes)
  where
    out : (item : Item) → GoesBy sets item → MayShow (seen_of format t by [] []) item → question_in item ≡ ToRead (objects_by_names t.domain sets ns)
    out item goes h =
        let os = objects_by_names t.domain sets ns in
        one_question (seen_of format t by [] []) item (Saw (record { sets = sets; readings = readings_of os os })) h (read_shows format t ns sets by (readings_of os os) s tells (objects_same os)) goes
        ∙ ap (λ xs. ToRead xs) (objects_same os)

    into : (item : Item) → GoesBy sets item → question_in item ≡ ToRead (objects_by_names t.domain sets ns) → MayShow (seen_of format t by [] []) item
    into (Sent z target v a args) goes e = absurd (cc e)
    into (HadNone z set) goes e = absurd (cc e)
    into (Saw k) goes e =
        let same : map object_read k.readings ≡ objects_by_names t.domain sets ns = cc e in
        subst (λ z. MayShow (seen_of format t by [] []) (Saw (record { sets = z; readings = k.readings }))) (sym goes) (read_shows format t ns sets by k.readings s tells same)
    into (Turned add o x) goes e = absurd (cc e)

-- ---- a change

told_changes : (format : Format) (d : Domain) (add : Bool) (o set : ℕ) → IsTold format d (DidChange add o set)
told_changes One d add o set = (tt, refl)
told_changes Two d add o set = tt

pub change_shows : (format : Format) (t : TaskView) (add : Bool) (o set : ℕ) (by : Sets) → Stood format t (named.Change add o set) → MayShow (seen_of format t by [] []) (Turned add o set)
change_shows format t add o set by s =
    let d = t.domain in
    let m : Move = DidChange add o set in
    let a = after_changes d s.left (env_now t) add o set s.asks in
    let b = said_after format d s.left (env_now t) m a.0 (env_now t) (told_changes format d add o set) a.1 in
    shows d (said_of_block format d (body t)) (env_before t) (said_moves format t.turn.moves) (said_of_block format d s.left) (env_now t) m b.0 b.1 [] (Turned add o set) []
    (said_leads format d (body t) (env_before t) t.turn.moves s.left (env_now t) s.told s.leads) b.2 refl

pub change_asks : (format : Format) (t : TaskView) (add : Bool) (o set : ℕ) (sets by : Sets) → Stood format t (named.Change add o set) → Asks (seen_of format t by [] []) sets (ToChange add o set)
change_asks format t add o set sets by s = λ item goes. (out item, into item)
  where
    out : (item : Item) → MayShow (seen_of format t by [] []) item → question_in item ≡ ToChange add o set
    out item h = sym (one_question (seen_of format t by [] []) (Turned add o set) item (change_shows format t add o set by s) h tt)

    into : (item : Item) → question_in item ≡ ToChange add o set → MayShow (seen_of format t by [] []) item
    into (Sent z target v a args) e = absurd (cc e)
    into (HadNone z x) e = absurd (cc e)
    into (Saw k) e = absurd (cc e)
    into (Turned a p x) e =
        let q : a ≡ add = cc e in
        let r : p ≡ o = cc e in
        let u : x ≡ set = cc e in
        subst (λ z. MayShow (seen_of format t by [] []) (Turned z p x)) (sym q) (subst (λ z. MayShow (seen_of format t by [] []) (Turned add z x)) (sym r)
        (subst (λ z. MayShow (seen_of format t by [] []) (Turned add o z)) (sym u) (change_shows format t add o set by s)))

-- ---- an end

end_means : (d : Domain) (left : Program) (env : Env) (o : Option ℕ) → named.End o ≡ first_contact left env → Means d left env [] env (outcome_of o)
end_means d Nothing env o h = let e : o ≡ None = cc h in (refl, refl, ap outcome_of e)
end_means d (EndIn s) env o h = let e : o ≡ Some s = cc h in (refl, refl, ap outcome_of e)
end_means d (TerminateIn s) env o h = let e : o ≡ Some s = cc h in (refl, refl, ap outcome_of e)
end_means d (SetThen q x rest) env o h = absurd (cc h)
end_means d (SendThen t a args rest) env o h = absurd (cc h)
end_means d (SendNoneThen set rest) env o h = absurd (cc h)
end_means d (IfThen t x y rest) env o h = absurd (cc h)
end_means d (WaitThen names rest) env o h = absurd (cc h)
end_means d (ChangeThen add p set rest) env o h = absurd (cc h)

end_said : (format : Format) (d : Domain) (left : Program) (env : Env) (o : Option ℕ) → named.End o ≡ first_contact left env → said_of_block format d left ≡ left
end_said Two d left env o h = refl
end_said One d Nothing env o h = refl
end_said One d (EndIn s) env o h = refl
end_said One d (TerminateIn s) env o h = refl
end_said One d (SetThen q x rest) env o h = absurd (cc h)
end_said One d (SendThen t a args rest) env o h = absurd (cc h)
end_said One d (SendNoneThen set rest) env o h = absurd (cc h)
end_said One d (IfThen t x y rest) env o h = absurd (cc h)
end_said One d (WaitThen names rest) env o h = absurd (cc h)
end_said One d (ChangeThen add p set rest) env o h = absurd (cc h)

-- an end leaves the parameters now
pub end_ends : (format : Format) (t : TaskView) (o : Option ℕ) (by : Sets) → Stood format t (named.End o) → EndsIn (seen_of format t by [] []) (state_left t.turn.state (outcome_of o)) t.params
end_ends format t o by s =
    let d = t.domain in
    let moves = said_moves format t.turn.moves in
    let leads = said_leads format d (body t) (env_before t) t.turn.moves s.left (env_now t) s.told s.leads in
    let means : Means d (said_of_block format d s.left) (env_now t) [] (env_now t) (outcome_of o) =
    subst (λ b. Means d b (env_now t) [] (env_now t) (outcome_of o)) (sym (end_said format d s.left (env_now t) o s.asks)) (end_means d s.left (env_now t) o s.asks) in
    record {
      moves = moves;
      env2 = env_now t;
      outcome = outcome_of o;
      means = subst (λ ms. Means d (said_of_block format d (body t)) (env_before t) ms (env_now t) (outcome_of o)) (append-nil moves)
          (leads_in d (said_of_block format d (body t)) (env_before t) moves (said_of_block format d s.left) (env_now t) [] (env_now t) (outcome_of o) leads means);
      shown = sym (append-nil (shown_moves moves));
      state = refl;
      params = refl;
    }

-- an action that may end shows nothing more
pub ends_silent : (f : FollowerView) (s : ℕ) (own2 : List Value) (item : Item) → EndsIn f s own2 → MayShow f item → ⊥
ends_silent f s own2 item e m =
    ends_or_asks f.domain (follower_block f) (follower_env f) e.moves m.0 e.env2 m.1 e.outcome m.2 item m.3 e.means m.4
    (m.5 ∙ behind_all f.shown item m.3 ∙ ap (λ l. l ++ item ∷ m.3) (sym e.shown))

-- an item that answers a question, by members
item_for : (sets : Sets) (q : Question) → (item : Item) × (GoesBy sets item) × (question_in item ≡ q)
item_for sets (ToPost p) = (item_of sets (unjudged p), refl, refl)
item_for sets (ToHave set) = (HadNone sets set, refl, refl)
item_for sets (ToRead objects) = (Saw (record { sets = sets; readings = readings_of objects objects }), refl, ap (λ os. ToRead os) (objects_same objects))
item_for sets (ToChange add o set) = (Turned add o set, tt, refl)

-- an action that asks does not end
pub asks_on : (f : FollowerView) (sets : Sets) (q : Question) (s : ℕ) (own2 : List Value) → Asks f sets q → EndsIn f s own2 → ⊥
asks_on f sets q s own2 a e =
    let i = item_for sets q in
    ends_silent f s own2 i.0 e ((a i.0 i.1).1 i.2)
