-- How a follower continues with posts, and where there is nobody to post to.
use Rattle.std.proofs.Common.{◌≡◌, ◌<◌, ◌∙◌, arith, length, sym, ap, refl, subst, ℕ, true, false, List, [], ◌∷◌, ◌++◌, append-nil, append_assoc, map, Some, None, Option, if◌then◌else◌}
use Rattle.std.specs.Prelude.{IfSome, IsSomeAnd, is_some, slice_get, zero, suc}
use Rattle.sml_domain.specs.Domain.{Domain}
use Rattle.sml_domain.specs.Program.{Target, ToOne, ToMembers}
use Rattle.smi_journal_entries.specs.Sets.{AreOf, Sets}
use Rattle.smi_journal_entries.specs.Words.{HadNone, Item}
use Rattle.smi_journal_entries.specs.declared.entry.Verdict.{Verdict}
use Rattle.smi_journal_entries.specs.declared.journal.Format.{Format}
use Rattle.smi_journal_entries.specs.declared.journal.Format.TheVariants.{One, Two}
use Rattle.smi_meaning.specs.Items.{Post, Posted, item_of, sent_shown}
use Rattle.smi_meaning.specs.Meaning.{Move, DidSend, Wanted}
use Rattle.smi_meaning.specs.Quiet.{IsUnchanged, are_some}
use Rattle.smi_meaning.specs.Shown.{AreSame, Question, ToPost, ToHave, ToRead, ToChange, question_in, sets_of, shown_moves}
use Rattle.smi_meaning.proofs.Showing.{shown-append}
use Rattle.smi_interp.specs.declared.contact.Contact.{Contact}
use Rattle.smi_interp.specs.declared.contact.Contact.TheVariants as named
use Rattle.smi_interp.specs.Expanded.{posts_in, objects_by_names}
use Rattle.smi_interp.specs.Turn.{posted_of, sending_of}
use Rattle.smi_interp.specs.Task.{TaskView, LeftNames, WantsVerdicts, sending_waiting, with_verdicts}
use Rattle.smi_audit_follower.specs.declared.follower.Begun.{Begun}
use Rattle.smi_audit_follower.specs.Expecting.{send_question, PostsNext, SendsNext}
use Rattle.smi_audit_follower.specs.Following.{AreTellable, Asks, GoesBy, MayTell, MayShow, said_moves, seen_of, with_item}
use Rattle.smi_audit_follower.specs.Followers.{IsInStep, IsPosting, IsOpen, IsUnder, posts_asked, seen_by, set_asked, set_without}
use Rattle.smi_audit_follower.specs.Passing.{ContactStands, fresh_of}
use Rattle.smi_audit_follower.proofs.Nexts.{asked_at, asks_first, next_post, somebody}
use Rattle.smi_audit_follower.proofs.Shows.{end_ends, ends_silent, none_shows, send_asks, send_shows}
use Rattle.smi_audit_follower.proofs.Ops.{never_none, same, stood_at}
use Rattle.smi_audit_follower.proofs.Sights.{unchanged_if}
use Rattle.smi_audit_follower.proofs.Sizes.{said_more, told_more}

-- ---- what waits

-- posts that wait are those of the send that waits
pub record Sends (d : Domain) (sets : Sets) (p : Option Contact) (posts : List Post) : Type 0 where
  pub wanted : Wanted
  pub waits : p ≡ Some (named.Send wanted)
  pub are : posts_in d sets wanted ≡ posts

pub sends_of : (d : Domain) (sets : Sets) (p : Option Contact) (posts : List Post) → posts_asked d sets p ≡ Some posts → Sends d sets p posts
sends_of d sets None posts e = absurd (cc e)
sends_of d sets (Some (named.Local q v)) posts e = absurd (cc e)
sends_of d sets (Some (named.Read names)) posts e = absurd (cc e)
sends_of d sets (Some (named.Change a o z)) posts e = absurd (cc e)
sends_of d sets (Some (named.End o)) posts e = absurd (cc e)
sends_of d sets (Some (named.Send w)) posts e = record { wanted = w; waits = refl; are = cc e }

-- only a contact that asks for a post has posts
post_asked : (d : Domain) (sets : Sets) (contact : Contact) (q : Question) (post : Post) → asked_at d sets contact ≡ Some q → ToPost post ≡ q
    → (posts : List Post) × (posts_asked d sets (Some contact) ≡ Some posts) × (slice_get posts 0 ≡ Some post)
post_asked d sets (named.Local p v) q post e is = absurd (cc e)
post_asked d sets (named.End s) q post e is = absurd (cc e)
post_asked d sets (named.Read names) q post e is =
    let k : ToPost post ≡ ToRead (objects_by_names d sets names) = is ∙ sym (same q (ToRead (objects_by_names d sets names)) e) in
    absurd (cc k)
post_asked d sets (named.Change a p t) q post e is = let k : ToPost post ≡ ToChange a p t = is ∙ sym (same q (ToChange a p t) e) in absurd (cc k)
post_asked d sets (named.Send w) q post e is = (posts_in d sets w, refl, go w.target (posts_in d sets w) e)
  where
    first : (p : Post) (ps : List Post) → Some (ToPost p) ≡ Some q → slice_get (p ∷ ps) 0 ≡ Some post
    first p ps e =
        let k : ToPost p ≡ ToPost post = same q (ToPost p) e ∙ sym is in
        let x : p ≡ post = cc k in
        ap (λ z. Some z) x

    go : (to : Target) (posts : List Post) → send_question to posts ≡ Some q → slice_get posts 0 ≡ Some post
    go (ToOne x) [] e = absurd (cc e)
    go (ToMembers x) [] e = let k : ToPost post ≡ ToHave x = is ∙ sym (same q (ToHave x) e) in absurd (cc k)
    go (ToOne x) (p ∷ ps) e = first p ps e
    go (ToMembers x) (p ∷ ps) e = first p ps e

-- only a contact that asks for a member asks for a set
none_asked : (d : Domain) (sets : Sets) (contact : Contact) (q : Question) (set : ℕ) → asked_at d sets contact ≡ Some q → ToHave set ≡ q → set_asked d sets (Some contact) ≡ Some set
none_asked d sets (named.Local p v) q set e is = absurd (cc e)
none_asked d sets (named.End s) q set e is = absurd (cc e)
none_asked d sets (named.Read names) q set e is =
    let k : ToHave set ≡ ToRead (objects_by_names d sets names) = is ∙ sym (same q (ToRead (objects_by_names d sets names)) e) in
    absurd (cc k)
none_asked d sets (named.Change a p t) q set e is = let k : ToHave set ≡ ToChange a p t = is ∙ sym (same q (ToChange a p t) e) in absurd (cc k)
none_asked d sets (named.Send w) q set e is = go w.target (posts_in d sets w) e
  where
    go : (to : Target) (posts : List Post) → send_question to posts ≡ Some q → set_without to posts ≡ Some set
    go (ToOne x) [] e = absurd (cc e)
    go (ToMembers x) [] e =
        let k : ToHave x ≡ ToHave set = same q (ToHave x) e ∙ sym is in
        let y : x ≡ set = cc k in
        ap (λ z. Some z) y
    go (ToOne x) (p ∷ ps) e = let k : ToHave set ≡ ToPost p = is ∙ sym (same q (ToPost p) e) in absurd (cc k)
    go (ToMembers x) (p ∷ ps) e = let k : ToHave set ≡ ToPost p = is ∙ sym (same q (ToPost p) e) in absurd (cc k)

-- what stands asks what it asks at these members
pub question_at : (format : Format) (t : TaskView) (declared : Sets) (sets : Sets) (item : Item) → IsInStep format t declared None → IfSome t.pending (LeftNames t) → MayTell format t.domain sets → GoesBy sets item
    → MayShow (fresh_of format t) item → (contact : Contact) × (t.pending ≡ Some contact) × (asked_at t.domain sets contact ≡ Some (question_in item))
question_at format t declared sets item s names tells goes m = go t.pending refl s.stands
  where
    ask : (contact : Contact) → t.pending ≡ Some contact → ContactStands format t.domain (Some contact) → (q : Option Question) → asked_at t.domain sets contact ≡ q
        → (contact : Contact) × (t.pending ≡ Some contact) × (asked_at t.domain sets contact ≡ Some (question_in item))
    ask contact is stands (Some q) e =
        let a = asks_first format t contact sets q (stood_at format t contact s.told names is) stands tells e in
        (contact, is, e ∙ ap (λ x. Some x) (sym ((a item goes).0 m)))
    ask (named.Local p v) is stands None e = absurd stands
    ask (named.End x) is stands None e =
        absurd (ends_silent (fresh_of format t) _ t.params item (end_ends format t x [] (stood_at format t (named.End x) s.told names is)) m)
    ask (named.Read ns) is stands None e = absurd (cc e)
    ask (named.Change a p z) is stands None e = absurd (cc e)
    ask (named.Send w) is stands None e = absurd (never_none format t t.domain sets w (stood_at format t (named.Send w) s.told names is) (posts_in t.domain sets w) refl e)

    go : (p : Option Contact) → t.pending ≡ p → ContactStands format t.domain p → (contact : Contact) × (t.pending ≡ Some contact) × (asked_at t.domain sets contact ≡ Some (question_in item))
    go None is stands = absurd stands
    go (Some contact) is stands = ask contact is stands (asked_at t.domain sets contact) refl

-- ---- posts

-- where a post may be shown, a send continues whose next post it is
pub post_waits : (format : Format) (t : TaskView) (declared : Sets) (begun : Option Begun) (sets : Sets) (x : Posted) (c : Begun) → IsInStep format t declared begun → IfSome t.pending (LeftNames t) → MayTell format t.domain sets
    → IsUnder t.domain sets t.pending begun (Some c) → MayShow (seen_by format t begun) (item_of sets x) → slice_get c.posts.items (length c.verdicts.items) ≡ Some x.post
post_waits format t declared (Some b) sets x c s names tells under m =
    let k : IsPosting format t b = s.sending in
    let n = next_post format t k.wanted b.members b.posts.items b.verdicts.items (item_of sets x) (stood_at format t (named.Send k.wanted) s.told names k.waits) k.tells k.posts k.some k.more m in
    let e : item_of sets x ≡ item_of b.members n.0 = n.1 in
    let q : ToPost x.post ≡ ToPost n.0.post = ap question_in e in
    let p : x.post ≡ n.0.post = cc q in
    ap (λ (z : Begun). slice_get z.posts.items (length z.verdicts.items)) under.1 ∙ n.2 ∙ ap (λ (y : Post). Some y) (sym p)
post_waits format t declared None sets x c s names tells under m =
    let a = question_at format t declared sets (item_of sets x) s names tells refl m in
    let p = post_asked t.domain sets a.0 (ToPost x.post) x.post a.2 refl in
    let e : Some p.0 ≡ Some c.posts.items = sym p.1 ∙ sym (ap (posts_asked t.domain sets) a.1) ∙ under.0 in
    let posts : p.0 ≡ c.posts.items = cc e in
    ap (λ vs. slice_get c.posts.items (length vs)) under.2 ∙ ap (λ ps. slice_get ps 0) (sym posts) ∙ p.2

-- and where none continues no post may be shown
pub post_not : (format : Format) (t : TaskView) (declared : Sets) (begun : Option Begun) (sets : Sets) (x : Posted) → IsInStep format t declared begun → IfSome t.pending (LeftNames t) → MayTell format t.domain sets
    → IsUnder t.domain sets t.pending begun None → MayShow (seen_by format t begun) (item_of sets x) → ⊥
post_not format t declared (Some b) sets x s names tells under m =
    let k : IsPosting format t b = s.sending in
    let n = next_post format t k.wanted b.members b.posts.items b.verdicts.items (item_of sets x) (stood_at format t (named.Send k.wanted) s.told names k.waits) k.tells k.posts k.some k.more m in
    let e : item_of sets x ≡ item_of b.members n.0 = n.1 in
    let q : Some sets ≡ Some b.members = ap sets_of e in
    under (sym (cc q))
post_not format t declared None sets x s names tells under m =
    let a = question_at format t declared sets (item_of sets x) s names tells refl m in
    let p = post_asked t.domain sets a.0 (ToPost x.post) x.post a.2 refl in
    let e : Some p.0 ≡ None = sym p.1 ∙ sym (ap (posts_asked t.domain sets) a.1) ∙ under in
    cc e

within_posts : (posts : List Post) (n : ℕ) (p : Post) → slice_get posts n ≡ Some p → n < length posts
within_posts [] n p h = let e : None ≡ Some p = h in absurd (cc e)
within_posts (x ∷ xs) zero p h = omega arith
within_posts (x ∷ xs) (suc n) p h = let r = within_posts xs n p h in omega (arith, r)

-- a send that continues has some posts without a verdict, where there is a next
pub post_opens : (format : Format) (t : TaskView) (declared : Sets) (begun : Option Begun) (sets : Sets) (p : Post) (c : Begun) → IsInStep format t declared begun → MayTell format t.domain sets → AreOf t.domain sets
    → IsUnder t.domain sets t.pending begun (Some c) → slice_get c.posts.items (length c.verdicts.items) ≡ Some p → IsOpen format t c
post_opens format t declared (Some b) sets p c s tells are under at =
    let k : IsPosting format t b = s.sending in
    subst (IsOpen format t) (sym under.1) (record { wanted = k.wanted; waits = k.waits; posts = k.posts; more = k.more; are = k.are; tells = k.tells })
post_opens format t declared None sets p c s tells are under at =
    let w = sends_of t.domain sets t.pending c.posts.items under.0 in
    record {
      wanted = w.wanted;
      waits = w.waits;
      posts = sym w.are ∙ ap (λ z. posts_in t.domain z w.wanted) (sym under.1);
      more = within_posts c.posts.items (length c.verdicts.items) p at;
      are = subst (AreOf t.domain) (sym under.1) are;
      tells = subst (MayTell format t.domain) (sym under.1) tells;
    }

-- the view of an action whose send continues
same_fresh : (format : Format) (t : TaskView) (sets : Sets) (posts : List Post) → fresh_of format t ≡ seen_of format t sets posts []
same_fresh format t sets [] = refl
same_fresh format t sets (p ∷ ps) = refl

pub same_under : (format : Format) (t : TaskView) (begun : Option Begun) (sets : Sets) (c : Begun) → IsUnder t.domain sets t.pending begun (Some c) → seen_by format t begun ≡ seen_of format t c.members c.posts.items c.verdicts.items
same_under format t (Some b) sets c under = ap (λ (z : Begun). seen_of format t z.members z.posts.items z.verdicts.items) (sym under.1)
same_under format t None sets c under = same_fresh format t c.members c.posts.items ∙ ap (λ vs. seen_of format t c.members c.posts.items vs) (sym under.2)

pub by_under : (format : Format) (t : TaskView) (begun : Option Begun) (sets : Sets) (c : Begun) → IsUnder t.domain sets t.pending begun (Some c) → c.members ≡ sets
by_under format t (Some b) sets c under = ap (λ (z : Begun). z.members) under.1 ∙ under.0
by_under format t None sets c under = under.1

-- the next post may be shown
pub post_may : (format : Format) (t : TaskView) (begun : Option Begun) (sets : Sets) (x : Posted) (c : Begun) → AreTellable format t.domain t.turn.moves → IfSome t.pending (LeftNames t)
    → IsUnder t.domain sets t.pending begun (Some c) → IsOpen format t c → slice_get c.posts.items (length c.verdicts.items) ≡ Some x.post → MayShow (seen_by format t begun) (item_of sets x)
post_may format t begun sets x c told names under o at =
    let m : MayShow (seen_of format t c.members (posts_in t.domain c.members o.wanted) c.verdicts.items) (item_of c.members x) =
    send_shows format t o.wanted c.members c.verdicts.items x (stood_at format t (named.Send o.wanted) told names o.waits) o.tells (ap (λ ps. slice_get ps (length c.verdicts.items)) (sym o.posts) ∙ at) in
    let n = subst (λ ps. MayShow (seen_of format t c.members ps c.verdicts.items) (item_of c.members x)) (sym o.posts) m in
    subst (λ z. MayShow (seen_by format t begun) (item_of z x)) (by_under format t begun sets c under) (subst (λ v. MayShow v (item_of c.members x)) (sym (same_under format t begun sets c under)) n)

posted_more : (sets : Sets) (posts : List Post) (vs : List Verdict) (x : Posted) → slice_get posts (length vs) ≡ Some x.post
    → map (item_of sets) (posted_of posts (vs ++ x.verdict ∷ [])) ≡ map (item_of sets) (posted_of posts vs) ++ item_of sets x ∷ []
posted_more sets [] vs x h = let e : None ≡ Some x.post = h in absurd (cc)
posted_more sets (p ∷ []) [] x h = let e : p ≡ x.post = cc in ap (λ q. item_of sets (record { post = q; verdict = x.verdict }) ∷ []) e
posted_more sets (p ∷ (q ∷ ps)) [] x h = let e : p ≡ x.post = cc in ap (λ r. item_of sets (record { post = r; verdict = x.verdict }) ∷ []) e
posted_more sets (p ∷ ps) (v ∷ vs) x h = ap (λ l. item_of sets (record { post = p; verdict = v }) ∷ l) (posted_more sets ps vs x h)

-- with one more verdict one more post is seen
pub post_seen : (format : Format) (t : TaskView) (begun : Option Begun) (sets : Sets) (x : Posted) (c : Begun) → IsUnder t.domain sets t.pending begun (Some c) → slice_get c.posts.items (length c.verdicts.items) ≡ Some x.post
    → seen_of format t c.members c.posts.items (c.verdicts.items ++ x.verdict ∷ []) ≡ with_item (seen_by format t begun) (item_of sets x)
post_seen format t begun sets x c under at =
    let S = shown_moves (said_moves format t.turn.moves) in
    let K = map (item_of c.members) (posted_of c.posts.items c.verdicts.items) in
    let e : S ++ map (item_of c.members) (posted_of c.posts.items (c.verdicts.items ++ x.verdict ∷ [])) ≡ (S ++ K) ++ item_of c.members x ∷ [] =
    ap (λ l. S ++ l) (posted_more c.members c.posts.items c.verdicts.items x at) ∙ sym (append_assoc S K (item_of c.members x ∷ [])) in
    ap (λ l. record (seen_of format t c.members c.posts.items c.verdicts.items) { shown = l }) e
    ∙ ap (λ v. with_item v (item_of c.members x)) (sym (same_under format t begun sets c under)) ∙ ap (λ z. with_item (seen_by format t begun) (item_of z x)) (by_under format t begun sets c under)

-- ---- a send that is done

some_posted : (posts : List Post) (vs : List Verdict) → length vs ≡ length posts → 0 < length vs → are_some (posted_of posts vs) ≡ true
some_posted [] [] e h = absurd (omega (arith, h))
some_posted [] (v ∷ vs) e h = absurd (omega (arith, e))
some_posted (p ∷ ps) [] e h = absurd (omega (arith, e))
some_posted (p ∷ ps) (v ∷ vs) e h = refl

sent_some : (sets : Sets) (to : Target) (ps : List Posted) → are_some ps ≡ true → sent_shown sets to ps ≡ map (item_of sets) ps
sent_some sets to [] h = absurd (cc h)
sent_some sets to (p ∷ ps) h = refl

said_send : (format : Format) (d : Domain) (sets : Sets) (w : Wanted) (vs : List Verdict) → are_some (posted_of (posts_in d sets w) vs) ≡ true
    → shown_moves (said_moves format (DidSend (sending_of d sets w vs) ∷ [])) ≡ map (item_of sets) (posted_of (posts_in d sets w) vs)
said_send Two d sets w vs some = append-nil (sent_shown sets w.target (posted_of (posts_in d sets w) vs)) ∙ sent_some sets w.target (posted_of (posts_in d sets w) vs) some
said_send One d sets w vs some =
    let m : Move = DidSend (sending_of d sets w vs) in
    ap (λ b. shown_moves (if b then m ∷ [] else [])) some ∙ append-nil (sent_shown sets w.target (posted_of (posts_in d sets w) vs)) ∙ sent_some sets w.target (posted_of (posts_in d sets w) vs) some

-- a task that was told the verdicts of its posts
sent_task : (t : TaskView) (sets : Sets) (w : Wanted) (vs : List Verdict) → t.pending ≡ Some (named.Send w)
    → with_verdicts t vs sets ≡ record t { pending = None; turn = record t.turn { moves = t.turn.moves ++ DidSend (sending_of t.domain sets w vs) ∷ [] } }
sent_task t sets w vs waits = ap (λ p. record t { pending = None; turn = record t.turn { moves = t.turn.moves ++ DidSend (sending_waiting t.domain sets vs p) ∷ [] } }) waits

unchanged_send : (format : Format) (d : Domain) (sets : Sets) (w : Wanted) (vs : List Verdict) → MayTell format d sets → format ≡ One → IsUnchanged d (DidSend (sending_of d sets w vs))
unchanged_send format d sets w vs tells e = unchanged_if format d sets tells e

pub sent_told : (format : Format) (t u : TaskView) (sets : Sets) (w : Wanted) (vs : List Verdict) → AreTellable format t.domain t.turn.moves → MayTell format t.domain sets → t.pending ≡ Some (named.Send w)
    → u ≡ with_verdicts t vs sets → AreTellable format u.domain u.turn.moves
sent_told format t u sets w vs told tells waits is =
    subst (λ (x : TaskView). AreTellable format x.domain x.turn.moves) (sym (is ∙ sent_task t sets w vs waits))
    (told_more format t.domain t.turn.moves (DidSend (sending_of t.domain sets w vs)) told (unchanged_send format t.domain sets w vs tells))

-- has shown its posts
pub sent_seen : (format : Format) (t u : TaskView) (sets : Sets) (w : Wanted) (posts : List Post) (vs : List Verdict) → t.pending ≡ Some (named.Send w) → posts ≡ posts_in t.domain sets w → length vs ≡ length posts → 0 < length vs
    → u ≡ with_verdicts t vs sets → fresh_of format u ≡ seen_of format t sets posts vs
sent_seen format t u sets w posts vs waits are each some is =
    let S = shown_moves (said_moves format t.turn.moves) in
    let m : Move = DidSend (sending_of t.domain sets w vs) in
    let full : length vs ≡ length (posts_in t.domain sets w) = each ∙ ap (λ (l : List Post). length l) are in
    let items : shown_moves (said_moves format (t.turn.moves ++ m ∷ [])) ++ [] ≡ S ++ map (item_of sets) (posted_of posts vs) =
    append-nil (shown_moves (said_moves format (t.turn.moves ++ m ∷ []))) ∙ ap shown_moves (said_more format t.turn.moves m)
    ∙ shown-append (said_moves format t.turn.moves) (said_moves format (m ∷ []))
    ∙ ap (λ l. S ++ l) (said_send format t.domain sets w vs (some_posted (posts_in t.domain sets w) vs full some)) ∙ ap (λ ps. S ++ map (item_of sets) (posted_of ps vs)) (sym are) in
    ap (fresh_of format) (is ∙ sent_task t sets w vs waits) ∙ ap (λ l. record (fresh_of format t) { shown = l }) items

-- ---- nobody to post to

-- the send that waits goes to the set, and posts nothing
pub record SendsToNobody (d : Domain) (sets : Sets) (p : Option Contact) (set : ℕ) : Type 0 where
  pub wanted : Wanted
  pub waits : p ≡ Some (named.Send wanted)
  pub to : wanted.target ≡ ToMembers set
  pub none : posts_in d sets wanted ≡ []

pub nobody_of : (d : Domain) (sets : Sets) (p : Option Contact) (set : ℕ) → set_asked d sets p ≡ Some set → SendsToNobody d sets p set
nobody_of d sets None set e = absurd (cc e)
nobody_of d sets (Some (named.Local q v)) set e = absurd (cc e)
nobody_of d sets (Some (named.Read names)) set e = absurd (cc e)
nobody_of d sets (Some (named.Change a o z)) set e = absurd (cc e)
nobody_of d sets (Some (named.End o)) set e = absurd (cc e)
nobody_of d sets (Some (named.Send w)) set e = let k = go w.target (posts_in d sets w) e in record { wanted = w; waits = refl; to = k.0; none = k.1 }
  where
    go : (to : Target) (posts : List Post) → set_without to posts ≡ Some set → (to ≡ ToMembers set) × (posts ≡ [])
    go (ToOne x) posts e = absurd (cc e)
    go (ToMembers x) (p ∷ ps) e = absurd (cc e)
    go (ToMembers x) [] e = let k : x ≡ set = cc e in (ap (λ z. ToMembers z) k, refl)

-- where that may be shown it waits
pub none_waits : (format : Format) (t : TaskView) (declared : Sets) (begun : Option Begun) (sets : Sets) (set : ℕ) → IsInStep format t declared begun → IfSome t.pending (LeftNames t) → MayTell format t.domain sets
    → MayShow (seen_by format t begun) (HadNone sets set) → (begun ≡ None) × (set_asked t.domain sets t.pending ≡ Some set)
none_waits format t declared (Some b) sets set s names tells m =
    let k : IsPosting format t b = s.sending in
    let n = next_post format t k.wanted b.members b.posts.items b.verdicts.items (HadNone sets set) (stood_at format t (named.Send k.wanted) s.told names k.waits) k.tells k.posts k.some k.more m in
    let e : HadNone sets set ≡ item_of b.members n.0 = n.1 in
    absurd (cc e)
none_waits format t declared None sets set s names tells m =
    let a = question_at format t declared sets (HadNone sets set) s names tells refl m in
    (refl, ap (set_asked t.domain sets) a.1 ∙ none_asked t.domain sets a.0 (ToHave set) set a.2 refl)

-- a journal of the first format tells of no such send
in_two : (format : Format) (t : TaskView) (declared sets : Sets) (w : Wanted) → IsInStep format t declared None → t.pending ≡ Some (named.Send w) → MayTell format t.domain sets → posts_in t.domain sets w ≡ [] → format ≡ Two
in_two Two t declared sets w s waits tells none = refl
in_two One t declared sets w s waits tells none = absurd (somebody t.domain sets w.passed w.target w.action (subst (ContactStands One t.domain) waits s.stands) tells none)

pub none_may : (format : Format) (t : TaskView) (declared sets : Sets) (set : ℕ) → IsInStep format t declared None → IfSome t.pending (LeftNames t) → MayTell format t.domain sets → set_asked t.domain sets t.pending ≡ Some set
    → MayShow (fresh_of format t) (HadNone sets set)
none_may Two t declared sets set s names tells e =
    let n = nobody_of t.domain sets t.pending set e in
    none_shows t n.wanted sets [] set (stood_at Two t (named.Send n.wanted) s.told names n.waits) n.to n.none
none_may One t declared sets set s names tells e =
    let n = nobody_of t.domain sets t.pending set e in
    absurd (somebody t.domain sets n.wanted.passed n.wanted.target n.wanted.action (subst (ContactStands One t.domain) n.waits s.stands) tells n.none)

-- such a send waits for no verdict
pub none_wants : (t : TaskView) (sets : Sets) (set : ℕ) → set_asked t.domain sets t.pending ≡ Some set → IsSomeAnd t.pending (WantsVerdicts t.domain sets 0)
none_wants t sets set e =
    let n = nobody_of t.domain sets t.pending set e in
    let k : 0 ≡ length (posts_in t.domain sets n.wanted) = sym (ap (λ (ps : List Post). length ps) n.none) in
    subst (λ p. IsSomeAnd p (WantsVerdicts t.domain sets 0)) (sym n.waits) k

pub none_told : (format : Format) (t u : TaskView) (sets : Sets) (set : ℕ) → AreTellable format t.domain t.turn.moves → MayTell format t.domain sets → set_asked t.domain sets t.pending ≡ Some set
    → u ≡ with_verdicts t [] sets → AreTellable format u.domain u.turn.moves
none_told format t u sets set told tells e is = let n = nobody_of t.domain sets t.pending set e in sent_told format t u sets n.wanted [] told tells n.waits is

said_none : (d : Domain) (sets : Sets) (w : Wanted) (set : ℕ) → w.target ≡ ToMembers set → posts_in d sets w ≡ [] → shown_moves (DidSend (sending_of d sets w []) ∷ []) ≡ HadNone sets set ∷ []
said_none d sets w set to none =
    append-nil (sent_shown sets w.target (posted_of (posts_in d sets w) [])) ∙ ap (λ ps. sent_shown sets w.target (posted_of ps [])) none ∙ ap (λ x. sent_shown sets x []) to

pub none_seen : (format : Format) (t u : TaskView) (declared sets : Sets) (set : ℕ) → IsInStep format t declared None → MayTell format t.domain sets → set_asked t.domain sets t.pending ≡ Some set
    → u ≡ with_verdicts t [] sets → fresh_of format u ≡ with_item (fresh_of format t) (HadNone sets set)
none_seen One t u declared sets set s tells e is =
    let n = nobody_of t.domain sets t.pending set e in
    absurd (somebody t.domain sets n.wanted.passed n.wanted.target n.wanted.action (subst (ContactStands One t.domain) n.waits s.stands) tells n.none)
none_seen Two t u declared sets set s tells e is =
    let n = nobody_of t.domain sets t.pending set e in
    let S = shown_moves t.turn.moves in
    let m : Move = DidSend (sending_of t.domain sets n.wanted []) in
    let item : Item = HadNone sets set in
    let items : shown_moves (t.turn.moves ++ m ∷ []) ++ [] ≡ (S ++ []) ++ item ∷ [] =
    append-nil (shown_moves (t.turn.moves ++ m ∷ [])) ∙ shown-append t.turn.moves (m ∷ [])
    ∙ ap (λ l. S ++ l) (said_none t.domain sets n.wanted set n.to n.none) ∙ ap (λ l. l ++ item ∷ []) (sym (append-nil S)) in
    ap (fresh_of Two) (is ∙ sent_task t sets n.wanted [] n.waits) ∙ ap (λ l. record (fresh_of Two t) { shown = l }) items

-- ---- what is expected

-- a send that waits asks what it asks, for any members that sets have
pub sends_next : (format : Format) (t : TaskView) (declared : Sets) (w : Wanted) → IsInStep format t declared None → IfSome t.pending (LeftNames t) → t.pending ≡ Some (named.Send w) → SendsNext (fresh_of format t) w
sends_next format t declared w s names waits sets tells = go (send_question w.target (posts_in t.domain sets w)) refl
  where
    go : (q : Option Question) → send_question w.target (posts_in t.domain sets w) ≡ q
        → (q : Question) × (send_question w.target (posts_in t.domain sets w) ≡ Some q) × Asks (fresh_of format t) sets q
    go None e = absurd (never_none format t t.domain sets w (stood_at format t (named.Send w) s.told names waits) (posts_in t.domain sets w) refl e)
    go (Some q) e = (q, e, asks_first format t (named.Send w) sets q (stood_at format t (named.Send w) s.told names waits) (subst (ContactStands format t.domain) waits s.stands) tells e)

-- within a send its next post is all that may be shown
pub posts_next : (format : Format) (t : TaskView) (b : Begun) (p : Post) → AreTellable format t.domain t.turn.moves → IfSome t.pending (LeftNames t) → IsPosting format t b → slice_get b.posts.items (length b.verdicts.items) ≡ Some p
    → PostsNext (seen_by format t (Some b)) p
posts_next format t b p told names k at = (b.members, λ item. (out item, into item))
  where
    out : (item : Item) → MayShow (seen_by format t (Some b)) item → (sets_of item ≡ Some b.members) × (question_in item ≡ ToPost p)
    out item m =
        let n = next_post format t k.wanted b.members b.posts.items b.verdicts.items item (stood_at format t (named.Send k.wanted) told names k.waits) k.tells k.posts k.some k.more m in
        let e : Some n.0.post ≡ Some p = sym n.2 ∙ at in
        let post : n.0.post ≡ p = cc e in
        (ap sets_of n.1, ap question_in n.1 ∙ ap (λ x. ToPost x) post)

    into : (item : Item) → (sets_of item ≡ Some b.members) × (question_in item ≡ ToPost p) → MayShow (seen_by format t (Some b)) item
    into item h =
        let goes : GoesBy b.members item = subst (λ s. AreSame s (Some b.members)) (sym h.0) refl in
        let asks = send_asks format t k.wanted b.members b.verdicts.items p (stood_at format t (named.Send k.wanted) told names k.waits) k.tells (ap (λ ps. slice_get ps (length b.verdicts.items)) (sym k.posts) ∙ at) in
        subst (λ ps. MayShow (seen_of format t b.members ps b.verdicts.items) item) (sym k.posts) ((asks item goes).1 h.1)

-- ---- no send is begun

pub none_begun : (begun : Option Begun) → is_some begun ≡ false → begun ≡ None
none_begun None e = refl
none_begun (Some b) e = absurd (cc e)

pub some_begun : (begun : Option Begun) → is_some begun ≡ true → begun ≡ None → ⊥
some_begun None e is = cc e
some_begun (Some b) e is = cc is
