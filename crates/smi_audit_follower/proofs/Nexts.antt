-- What may be shown next, by the contact that waits.
use Rattle.std.proofs.Common.{◌≡◌, ◌∙◌, sym, ap, refl, subst, ℕ, ◌<◌, ◌≤◌, true, List, [], ◌∷◌, map, arith, length, Some, None, Option}
use Rattle.std.specs.Prelude.{slice_get, not, nat_eq, zero, suc}
use Rattle.sml_domain.specs.Completing.{Passed as Given}
use Rattle.sml_domain.specs.Program.{Target, ToOne, ToMembers, Program, Nothing, SetThen, SendThen, SendNoneThen, IfThen, EndIn, TerminateIn, WaitThen, ChangeThen}
use Rattle.sml_domain.specs.Domain.{Domain}
use Rattle.sml_domain.specs.Lookups.{members_at}
use Rattle.smi_journal_entries.specs.Sets.{Sets, members_in}
use Rattle.smi_journal_entries.specs.Words.{Item}
use Rattle.smi_journal_entries.specs.declared.entry.Verdict.{Verdict}
use Rattle.smi_journal_entries.specs.declared.journal.Format.{Format}
use Rattle.smi_journal_entries.specs.declared.journal.Format.TheVariants.{One, Two}
use Rattle.smi_meaning.specs.Items.{Post, Posted, item_of}
use Rattle.smi_meaning.specs.Environment.{Env}
use Rattle.smi_meaning.specs.Meaning.{Wanted, DidSend, post_of, posts_for, targets_of, want, want_nothing}
use Rattle.smi_meaning.specs.Quiet.{said_of_block}
use Rattle.smi_meaning.specs.Shown.{Question, ToPost, ToHave, ToRead, ToChange}
use Rattle.smi_interp.specs.declared.contact.Contact.{Contact}
use Rattle.smi_interp.specs.declared.contact.Contact.TheVariants as named
use Rattle.smi_interp.specs.Cursor.{first_contact}
use Rattle.smi_interp.specs.Expanded.{posts_in, objects_by_names}
use Rattle.smi_interp.specs.Turn.{posted_of, sending_of}
use Rattle.smi_interp.specs.Task.{TaskView, body, env_before, env_now}
use Rattle.smi_audit_follower.specs.Expecting.{send_question}
use Rattle.smi_audit_follower.specs.Following.{FollowerView, MayTell, MayShow, Asks, said_moves, seen_of}
use Rattle.smi_audit_follower.specs.Passing.{ContactStands, fresh_of, is_sent}
use Rattle.smi_audit_follower.proofs.Begun.{within_shows}
use Rattle.smi_audit_follower.proofs.Shows.{Stood, after_sends, change_asks, fill, length-fill, none_asks, read_asks, said_after, said_leads, send_asks, some_filled, told_sends}

-- ---- the question of a contact, where sets have these members

abbrev pub asked_at : Domain → Sets → Contact → Option Question
asked_at d sets (named.Local p v) = None
asked_at d sets (named.Send w) = send_question w.target (posts_in d sets w)
asked_at d sets (named.Read names) = Some (ToRead (objects_by_names d sets names))
asked_at d sets (named.Change add o set) = Some (ToChange add o set)
asked_at d sets (named.End o) = None

-- a send that is asked for first goes to a set where nothing is posted
pub to_a_set : (d : Domain) (left : Program) (env : Env) (sets : Sets) (w : Wanted) → named.Send w ≡ first_contact left env → posts_in d sets w ≡ [] → (set : ℕ) × (w.target ≡ ToMembers set)
to_a_set d (SendThen (ToOne o) a args rest) env sets w h none =
    let is : w ≡ want (ToOne o) a args env = cc h in
    let e = ap (posts_in d sets) (sym is) ∙ none in
    absurd (cc e)
to_a_set d (SendThen (ToMembers z) a args rest) env sets w h none =
    let is : w ≡ want (ToMembers z) a args env = cc h in
    (z, ap (λ x. x.target) is)
to_a_set d (SendNoneThen set rest) env sets w h none =
    let is : w ≡ want_nothing set = cc h in
    (set, ap (λ x. x.target) is)
to_a_set d Nothing env sets w h none = absurd (cc h)
to_a_set d (SetThen q x rest) env sets w h none = absurd (cc h)
to_a_set d (IfThen t x y rest) env sets w h none = absurd (cc h)
to_a_set d (EndIn s) env sets w h none = absurd (cc h)
to_a_set d (TerminateIn s) env sets w h none = absurd (cc h)
to_a_set d (WaitThen names rest) env sets w h none = absurd (cc h)
to_a_set d (ChangeThen add o set rest) env sets w h none = absurd (cc h)

-- where the first format tells of a send, something is posted
pub somebody : (d : Domain) (sets : Sets) (passed : List Given) (to : Target) (a : Option ℕ) → is_sent d to a ≡ true → MayTell One d sets → posts_for d passed (targets_of (members_in d sets) to) a ≡ [] → ⊥
somebody d sets passed to None said tells none = cc said
somebody d sets passed (ToOne o) (Some a) said tells none = cc none
somebody d sets passed (ToMembers set) (Some a) said tells none = go (members_in d sets set) (members_at d set) (tells set) said none
  where
    go : (xs ys : List ℕ) → xs ≡ ys → not (nat_eq (length ys) 0) ≡ true → posts_for d passed xs (Some a) ≡ [] → ⊥
    go [] [] e h g = cc h
    go [] (y ∷ ys) e h g = cc e
    go (x ∷ xs) ys e h g = cc g

pub first_question : (to : Target) (p : Post) (ps : List Post) (q : Question) → send_question to (p ∷ ps) ≡ Some q → ToPost p ≡ q
first_question (ToOne o) p ps q e = cc e
first_question (ToMembers set) p ps q e = cc e

same_view : (format : Format) (t : TaskView) (sets : Sets) (posts : List Post) (P : FollowerView → Type 0) → P (seen_of format t sets posts []) → P (fresh_of format t)
same_view format t sets [] P h = h
same_view format t sets (p ∷ ps) P h = h

-- what a contact asks for first
pub asks_first : (format : Format) (t : TaskView) (contact : Contact) (sets : Sets) (q : Question) → Stood format t contact → ContactStands format t.domain (Some contact) → MayTell format t.domain sets
    → asked_at t.domain sets contact ≡ Some q → Asks (fresh_of format t) sets q
asks_first format t (named.Local p v) sets q s stands tells e = absurd stands
asks_first format t (named.End o) sets q s stands tells e = absurd (cc e)
asks_first format t (named.Read names) sets q s stands tells e =
    let is : ToRead (objects_by_names t.domain sets names) ≡ q = cc e in
    subst (Asks (fresh_of format t) sets) is (read_asks format t names sets [] s tells)
asks_first format t (named.Change add o set) sets q s stands tells e =
    let is : ToChange add o set ≡ q = cc e in
    subst (Asks (fresh_of format t) sets) is (change_asks format t add o set sets [] s)
asks_first format t (named.Send w) sets q s stands tells e = go format (posts_in t.domain sets w) refl s stands tells e
  where
    go : (format : Format) (posts : List Post) → posts_in t.domain sets w ≡ posts → Stood format t (named.Send w) → ContactStands format t.domain (Some (named.Send w)) → MayTell format t.domain sets
        → send_question w.target posts ≡ Some q → Asks (fresh_of format t) sets q
    go format (p ∷ ps) is s stands tells e =
        let first : ToPost p ≡ q = first_question w.target p ps q e in
        let at : slice_get (posts_in t.domain sets w) 0 ≡ Some p = ap (λ l. slice_get l 0) is in
        subst (Asks (fresh_of format t) sets) first (same_view format t sets (posts_in t.domain sets w) (λ f. Asks f sets (ToPost p)) (send_asks format t w sets [] p s tells at))
    go One [] is s stands tells e = absurd (somebody t.domain sets w.passed w.target w.action stands tells is)
    go Two [] is s stands tells e =
        let set = to_a_set t.domain s.left (env_now t) sets w s.asks is in
        let have : ToHave set.0 ≡ q = let f : Some (ToHave set.0) ≡ Some q = sym (ap (λ to. send_question to []) set.1) ∙ e in cc f in
        subst (Asks (fresh_of Two t) sets) have (none_asks t w sets [] set.0 s set.1 is)

-- ---- within a send

length-posted : (ps : List Post) (vs : List Verdict) → length vs ≤ length ps → length (posted_of ps vs) ≡ length vs
length-posted [] [] h = refl
length-posted [] (v ∷ vs) h = absurd (omega (arith, h))
length-posted (p ∷ ps) [] h = refl
length-posted (p ∷ ps) (v ∷ vs) h =
    let less : length vs ≤ length ps = omega (arith, h) in
    let r = length-posted ps vs less in
    omega (arith, r)

posts_posted : (ps : List Post) (vs : List Verdict) → length vs ≡ length ps → map post_of (posted_of ps vs) ≡ ps
posts_posted [] vs e = refl
posts_posted (p ∷ ps) [] e = absurd (omega arith)
posts_posted (p ∷ ps) (v ∷ vs) e = ap (λ qs. p ∷ qs) (posts_posted ps vs (omega arith))

there : (posts : List Post) (n : ℕ) → n < length posts → (p : Post) × (slice_get posts n ≡ Some p)
there [] n h = absurd (omega (arith, h))
there (p ∷ ps) zero h = (p, refl)
there (p ∷ ps) (suc n) h =
    let less : n < length ps = omega (arith, h) in
    there ps n less

-- where a send has some of its posts, its next is the only thing that may be shown, by the same members
pub next_post : (format : Format) (t : TaskView) (w : Wanted) (sets : Sets) (posts : List Post) (vs : List Verdict) (item : Item) → Stood format t (named.Send w) → MayTell format t.domain sets
    → posts ≡ posts_in t.domain sets w → 0 < length vs → length vs < length posts → MayShow (seen_of format t sets posts vs) item
    → (x : Posted) × (item ≡ item_of sets x) × (slice_get posts (length vs) ≡ Some x.post)
next_post format t w sets posts [] item s tells is some more m = absurd (omega (arith, some))
next_post format t w sets [] (v ∷ vs) item s tells is some more m = absurd (omega (arith, more))
next_post format t w sets (p ∷ ps) (v ∷ vs) item s tells is some more m =
    let d = t.domain in
    let all = posts_in d sets w in
    let ws = fill all (v ∷ vs) in
    let each : length ws ≡ length all = length-fill all (v ∷ vs) in
    let long : length (p ∷ ps) ≡ length all = ap (λ (l : List Post). length l) is in
    let one = there (p ∷ ps) (length (v ∷ vs)) more in
    let at : slice_get all (length (v ∷ vs)) ≡ Some one.0 = ap (λ l. slice_get l (length (v ∷ vs))) (sym is) ∙ one.1 in
    let told = told_sends format d sets w ws tells (some_filled all (length (v ∷ vs)) one.0 (v ∷ vs) at) in
    let a = after_sends d s.left (env_now t) sets w ws s.asks each in
    let b = said_after format d s.left (env_now t) (DidSend (sending_of d sets w ws)) a.0 (env_now t) told a.1 in
    let leads = said_leads format d (body t) (env_before t) t.turn.moves s.left (env_now t) s.told s.leads in
    let less : length vs ≤ length ps = omega (arith, more) in
    let shown : length (posted_of (p ∷ ps) (v ∷ vs)) ≡ length (v ∷ vs) = length-posted (p ∷ ps) (v ∷ vs) (omega (arith, less)) in
    let count : length (posted_of all ws) ≡ length all = length-posted all ws (omega (arith, each)) ∙ each in
    let lt : length (posted_of (p ∷ ps) (v ∷ vs)) < length (posted_of all ws) = omega (arith, shown, count, long, more) in
    let n = within_shows d (said_of_block format d (body t)) (env_before t) (said_moves format t.turn.moves) (said_of_block format d s.left) (env_now t) (sending_of d sets w ws) b.0 b.1 (record { post = p; verdict = v }) (posted_of ps vs) item leads b.2 lt m in
    let place : slice_get (p ∷ ps) (length (v ∷ vs)) ≡ Some n.post.post =
    ap (λ l. slice_get l (length (v ∷ vs))) is ∙ ap (λ l. slice_get l (length (v ∷ vs))) (sym (posts_posted all ws each)) ∙ ap (slice_get (map post_of (posted_of all ws))) (sym shown) ∙ n.at in
    (n.post, n.is, place)
