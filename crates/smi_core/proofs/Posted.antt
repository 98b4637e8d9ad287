-- The posts of a `do`, from the judgement of the board to that of the world.
use Rattle.std.proofs.Common.{◌≡◌, ◌≢◌, ◌<◌, ◌≤◌, ◌-◌, ◌==◌, ℕ, cond, List, [], ◌∷◌, ◌++◌, length, length-append, map, Option, Some, None, IfSome, All, refl, sym, ap, ◌∙◌, subst, arith, ⊎_elim, append_assoc, append-nil}
use Rattle.std.proofs.lemmas.Bool.{cases_eq, eq-eqb}
use Rattle.sml_domain.specs.Domain.{Domain}
use Rattle.sml_domain.specs.Program.{Target, ToOne, ToMembers}
use Rattle.sml_domain.proofs.Finds.{all_head, all_tail}
use Rattle.smi_journal_entries.specs.declared.entry.Sender.{Sender}
use Rattle.smi_journal_entries.specs.declared.entry.Sender.TheVariants.{Object}
use Rattle.smi_journal_entries.specs.declared.entry.Verdict.{Verdict}
use Rattle.smi_journal_entries.specs.declared.entry.Verdict.TheVariants.{Accepted, Full, Dead}
use Rattle.smi_journal_entries.specs.declared.entry.Entry.{Entry}
use Rattle.smi_journal_entries.specs.Requests.{Request, from_sender, same_sender}
use Rattle.smi_journal_entries.specs.Sets.{sets_after}
use Rattle.smi_journal_entries.specs.declared.entry.Entry.TheVariants.{NoMember}
use Rattle.smi_journal_entries.specs.Words.{HadNone, dead_of, initial_of, open_at, shown_of, starts_at, state_of}
use Rattle.smi_journal_entries.proofs.OneMore.{open_more, sets_more, shown_more, starts_more, state_more}
use Rattle.smi_meaning.specs.Items.{Post, Posted, item_of, sent_shown, entry_of}
use Rattle.smi_meaning.specs.Meaning.{Move}
use Rattle.smi_interp.specs.Turn.{posted_of}
use Rattle.smi_mail_plain.specs.Mails.{with_last}
use Rattle.smi_board.specs.Contacts.{AreSent, NotesNobody}
use Rattle.smi_board.specs.Posting.{Lists, RequestIsSent, PostIsJudged, AreJudged, IsPostable, request_by}
use Rattle.smi_board.proofs.Sent.{open_posted, shown_posted, either_way, judged_long}
use Rattle.smi_board.proofs.Ties.{none_of}
use Rattle.smi_world.specs.World.{Setup, World, waiting}
use Rattle.smi_world.specs.Moves.{ActionNotesNobody as Nobody, PostsAll, PostsAs, PostsEach, request_of_post}
use Rattle.smi_world.proofs.Lists.{from_append}
use Rattle.smi_world.proofs.Books.{same_self}
use Rattle.smi_core.proofs.Listed.{listed_at}
use Rattle.smi_core.proofs.Worlds.{world_in, worlds_same, listed_put, behind_front}
use Rattle.smi_core.proofs.Tasks.{Others, others_self, others_one, others_then}

-- what waits, where that is known
abbrev pub known_of : Option (List Request) → List Request
known_of None = []
known_of (Some w) = w

-- the requests accepted at an object, by the lists of a mail
abbrev pub queue_by : Lists → ℕ → List Request
queue_by m o = m.taken o ++ known_of (m.waiting o)

-- lists of a mail that are those of a world
pub record AreLists (m : Lists) (o capacity : ℕ) (J : List Entry) : Type 0 where
  pub taken : (x : ℕ) → m.taken x ≡ starts_at x J
  pub sent : (x : ℕ) → m.sent (Object o) x ≡ from_sender (Object o) (queue_by m x)
  pub known : (x : ℕ) → m.waiting x ≡ Some (known_of (m.waiting x))
  pub limit : m.capacity ≡ capacity

starts_posted : (J : List Entry) (x o : ℕ) (p : Post) (v : Verdict) → starts_at x (J ++ entry_of o p v ∷ []) ≡ starts_at x J
starts_posted J x o p v = starts_more x J (entry_of o p v) ∙ ap (λ rs. starts_at x J ++ rs) (none_of (x == o)) ∙ append-nil (starts_at x J)

if_known : (P : List Request → Type 0) (w : Option (List Request)) (x : List Request) → w ≡ Some x → IfSome w P → P x
if_known P w x is h = subst (λ y. IfSome y P) is h

-- after an accepted post
queue_here : (m m2 : Lists) (t : ℕ) (r : Request) (o capacity : ℕ) (J : List Entry) → AreLists m o capacity J → RequestIsSent m t r m2 → queue_by m2 t ≡ queue_by m t ++ r ∷ []
queue_here m m2 t r o capacity J h s =
    ap (λ xs. xs ++ known_of (m2.waiting t)) (s.taken_same t)
    ∙ ap (λ w. m.taken t ++ known_of w) (s.last ∙ ap (λ w. with_last w r) (h.known t))
    ∙ sym (append_assoc (m.taken t) (known_of (m.waiting t)) (r ∷ []))

queue_there : (m m2 : Lists) (t x : ℕ) (r : Request) → x ≢ t → RequestIsSent m t r m2 → queue_by m2 x ≡ queue_by m x
queue_there m m2 t x r apart s = ap (λ xs. xs ++ known_of (m2.waiting x)) (s.taken_same x) ∙ ap (λ w. m.taken x ++ known_of w) (s.elsewhere x apart)

from_self : (s : Sender) (xs : List Request) (r : Request) → r.sender ≡ s → from_sender s (xs ++ r ∷ []) ≡ from_sender s xs ++ r ∷ []
from_self s xs r is = from_append s xs (r ∷ []) ∙ ap (λ b. from_sender s xs ++ cond b (r ∷ []) []) (ap (same_sender s) is ∙ same_self s)

known_is : (w : Option (List Request)) (z : List Request) → w ≡ Some z → w ≡ Some (known_of w)
known_is w z is = is ∙ ap (λ y. Some (known_of y)) (sym is)

lists_after : (m m2 : Lists) (o capacity n : ℕ) (J : List Entry) (p : Post) → AreLists m o capacity J → RequestIsSent m p.target (request_by o p) m2 → AreLists m2 o capacity (J ++ entry_of o p (Accepted n) ∷ [])
lists_after m m2 o capacity n J p h s = record {
  taken = λ x. s.taken_same x ∙ h.taken x ∙ sym (starts_posted J x o p (Accepted n));
  sent = λ x. ⊎_elim
      (λ (at : x ≡ p.target). subst (λ y. m2.sent (Object o) y ≡ from_sender (Object o) (queue_by m2 y)) (sym at)
      (s.grown.0 ∙ ap (λ rs. rs ++ request_by o p ∷ []) (h.sent p.target) ∙ sym (from_self (Object o) (queue_by m p.target) (request_by o p) refl)
      ∙ ap (from_sender (Object o)) (sym (queue_here m m2 p.target (request_by o p) o capacity J h s))))
      (λ apart. s.grown.1 x apart ∙ h.sent x ∙ ap (from_sender (Object o)) (sym (queue_there m m2 p.target x (request_by o p) apart s)))
      (cases_eq x p.target);
  known = λ x. ⊎_elim
      (λ (at : x ≡ p.target). subst (λ y. m2.waiting y ≡ Some (known_of (m2.waiting y))) (sym at)
      (known_is (m2.waiting p.target) _ (s.last ∙ ap (λ w. with_last w (request_by o p)) (h.known p.target))))
      (λ apart. known_is (m2.waiting x) _ (s.elsewhere x apart ∙ h.known x))
      (cases_eq x p.target);
  limit = s.limit ∙ h.limit;
}

lists_quiet : (m m2 : Lists) (o capacity : ℕ) (J : List Entry) (p : Post) (v : Verdict) → AreLists m o capacity J → m2 ≡ m → AreLists m2 o capacity (J ++ entry_of o p v ∷ [])
lists_quiet m m2 o capacity J p v h same = subst (λ l. AreLists l o capacity (J ++ entry_of o p v ∷ [])) (sym same) (record {
  taken = λ x. h.taken x ∙ sym (starts_posted J x o p v);
  sent = h.sent;
  known = h.known;
  limit = h.limit;
})

lists_next : (m m2 : Lists) (o capacity : ℕ) (J : List Entry) (p : Post) (v : Verdict) → AreLists m o capacity J → PostIsJudged o m J p v m2 → AreLists m2 o capacity (J ++ entry_of o p v ∷ [])
lists_next m m2 o capacity J p Dead h j = lists_quiet m m2 o capacity J p Dead h j.1
lists_next m m2 o capacity J p Full h j = lists_quiet m m2 o capacity J p Full h j.1
lists_next m m2 o capacity J p (Accepted n) h j = lists_after m m2 o capacity n J p h j.2

module _ (m : Setup) (o : ℕ) (moves : ℕ → List Move) where
  -- the world of the lists of a mail
  abbrev at_lists : Lists → List Entry → World
  at_lists l J = world_in (length m.domain.objects) J (queue_by l) moves

  waits_by : (l : Lists) (J : List Entry) (t : ℕ) → t < length m.domain.objects → AreLists l o m.capacity J → waiting t (at_lists l J) ≡ length (known_of (l.waiting t))
  waits_by l J t lt h = ap (λ (q : List Request). length q - length (starts_at t J)) (listed_at (length m.domain.objects) (queue_by l) t [] lt)
      ∙ behind_front (l.taken t) (known_of (l.waiting t)) (starts_at t J) (h.taken t)

  posts_as : (l l2 : Lists) (J : List Entry) (p : Post) (v : Verdict) → p.target < length m.domain.objects → AreLists l o m.capacity J → PostIsJudged o l J p v l2 → PostsAs v m (at_lists l J) o p (at_lists l2 (J ++ entry_of o p v ∷ []))
  posts_as l l2 J p Dead lt h j = (j.0, ap (λ x. at_lists x (J ++ entry_of o p Dead ∷ [])) j.1)
  posts_as l l2 J p Full lt h j =
      let full = if_known (λ w. length w ≡ l.capacity) (l.waiting p.target) (known_of (l.waiting p.target)) (h.known p.target) j.2 in
      let long = waits_by l J p.target lt h in
      (j.0, omega (arith, full, long, h.limit), ap (λ x. at_lists x (J ++ entry_of o p Full ∷ [])) j.1)
  posts_as l l2 J p (Accepted n) lt h j =
      let few = if_known (λ w. length w < l.capacity) (l.waiting p.target) (known_of (l.waiting p.target)) (h.known p.target) j.3 in
      let long = waits_by l J p.target lt h in
      let s = j.2 in (
        record { alive = j.0; room = omega (arith, few, long, h.limit) },
        j.1 ∙ ap length (h.sent p.target ∙ ap (from_sender (Object o)) (sym (listed_at (length m.domain.objects) (queue_by l) p.target [] lt))),
        worlds_same refl (listed_put (length m.domain.objects) (queue_by l) (queue_by l2) p.target (request_of_post o p) lt
            (queue_here l l2 p.target (request_by o p) o m.capacity J h s) (λ y below apart. queue_there l l2 p.target y (request_by o p) apart s)) refl,
      )

  -- all posts of a `do`
  pub posts_each : (l l2 : Lists) (J J2 : List Entry) (ps : List Post) (vs : List Verdict) → All (IsPostable m.domain) ps → AreLists l o m.capacity J → AreJudged o l J ps vs l2 J2 → PostsEach m (at_lists l J) o (posted_of ps vs) (at_lists l2 J2)
  posts_each l l2 J J2 [] [] there h w = λ i. at_lists (w.0 i) (w.1 i)
  posts_each l l2 J J2 [] (v ∷ vs) there h w = absurd w
  posts_each l l2 J J2 (p ∷ ps) [] there h w = absurd w
  posts_each l l2 J J2 (p ∷ ps) (v ∷ vs) there h w =
      let lt = (all_head (IsPostable m.domain) p ps there).there in (
        at_lists w.0 (J ++ entry_of o p v ∷ []),
        posts_as l w.0 J p v lt h w.1,
        posts_each w.0 l2 (J ++ entry_of o p v ∷ []) J2 ps vs (all_tail (IsPostable m.domain) p ps there) (lists_next l w.0 o m.capacity J p v h w.1) w.2,
      )

  -- or that there is nobody to post to
  notes_nobody : (l l2 : Lists) (J J2 : List Entry) (to : Target) → l2 ≡ l → NotesNobody o to J J2 → Nobody (at_lists l J) o to (at_lists l2 J2)
  notes_nobody l l2 J J2 (ToOne t) same is = λ i. at_lists (same i) (is i)
  notes_nobody l l2 J J2 (ToMembers set) same is = λ i. at_lists (same i) (is i)

  pub posts_all : (l l2 : Lists) (J J2 : List Entry) (to : Target) (ps : List Post) (vs : List Verdict) → All (IsPostable m.domain) ps → AreLists l o m.capacity J → AreSent o to l J ps vs l2 J2 → PostsAll m (at_lists l J) o to (posted_of ps vs) (at_lists l2 J2)
  posts_all l l2 J J2 to [] vs there h w = notes_nobody l l2 J J2 to w.1 w.2
  posts_all l l2 J J2 to (p ∷ ps) [] there h w = absurd w
  posts_all l l2 J J2 to (p ∷ ps) (v ∷ vs) there h w = posts_each l l2 J J2 (p ∷ ps) (v ∷ vs) there h w

-- ---- what the journal shows of them

-- a journal with the posts of an object at its end
pub record ShowsPosts (d : Domain) (o : ℕ) (J K : List Entry) (to : Target) (posts : List Posted) : Type 0 where
  pub others : Others d o J K
  pub opened : open_at o K ≡ open_at o J
  pub state : state_of d o K ≡ state_of d o J
  pub shown : shown_of d o K ≡ shown_of d o J ++ sent_shown (sets_after d J) to posts
  pub longer : length J ≤ length K

state_posted : (d : Domain) (J : List Entry) (o : ℕ) (p : Post) (v : Verdict) → state_of d o (J ++ entry_of o p v ∷ []) ≡ state_of d o J
state_posted d J o p v = state_more o (initial_of d o) (dead_of d o) J (entry_of o p v) ∙ either_way (o == o) (state_of d o J)

-- so it is of posts alone
record ShowsEach (d : Domain) (o : ℕ) (J K : List Entry) (posts : List Posted) : Type 0 where
  others : Others d o J K
  opened : open_at o K ≡ open_at o J
  state : state_of d o K ≡ state_of d o J
  shown : shown_of d o K ≡ shown_of d o J ++ map (item_of (sets_after d J)) posts
  longer : length J ≤ length K

shows_each : (d : Domain) (o : ℕ) (l l2 : Lists) (J K : List Entry) (ps : List Post) (vs : List Verdict) → AreJudged o l J ps vs l2 K → ShowsEach d o J K (posted_of ps vs)
shows_each d o l l2 J K [] [] w = subst (λ x. ShowsEach d o J x []) (sym w.1) (record {
  others = others_self d o J;
  opened = refl;
  state = refl;
  shown = sym (append-nil (shown_of d o J));
  longer = omega arith;
})
shows_each d o l l2 J K [] (v ∷ vs) w = absurd w
shows_each d o l l2 J K (p ∷ ps) [] w = absurd w
shows_each d o l l2 J K (p ∷ ps) (v ∷ vs) w =
    let e = entry_of o p v in
    let h = shows_each d o w.0 l2 (J ++ e ∷ []) K ps vs w.2 in
    let item = item_of (sets_after d J) (record { post = p; verdict = v }) in
    let rest = map (item_of (sets_after d J)) (posted_of ps vs) in
    record {
      others = others_then d o J (J ++ e ∷ []) K (others_one d o J e refl) h.others;
      opened = h.opened ∙ open_posted J o p v;
      state = h.state ∙ state_posted d J o p v;
      shown = h.shown ∙ ap (λ s. shown_of d o (J ++ e ∷ []) ++ map (item_of s) (posted_of ps vs)) (sets_more d J e) ∙ ap (λ xs. xs ++ rest) (shown_posted d J o p v) ∙ append_assoc (shown_of d o J) (item ∷ []) rest;
      longer = omega (arith, h.longer, length-append J (e ∷ []));
    }

state_none : (d : Domain) (J : List Entry) (o set : ℕ) → state_of d o (J ++ NoMember o set ∷ []) ≡ state_of d o J
state_none d J o set = state_more o (initial_of d o) (dead_of d o) J (NoMember o set) ∙ either_way (o == o) (state_of d o J)

-- and of a send to nobody
shows_nobody : (d : Domain) (o : ℕ) (J K : List Entry) (to : Target) → NotesNobody o to J K → ShowsPosts d o J K to []
shows_nobody d o J K (ToOne t) is = subst (λ x. ShowsPosts d o J x (ToOne t) []) (sym is) (record {
  others = others_self d o J;
  opened = refl;
  state = refl;
  shown = sym (append-nil (shown_of d o J));
  longer = omega arith;
})
shows_nobody d o J K (ToMembers set) is =
    let e = NoMember o set in
    let item = HadNone (sets_after d J) set in
    subst (λ x. ShowsPosts d o J x (ToMembers set) []) (sym is) (record {
      others = others_one d o J e refl;
      opened = open_more o J e ∙ either_way (o == o) (open_at o J);
      state = state_none d J o set;
      shown = shown_more d o J e ∙ ap (λ b. cond b (shown_of d o J ++ item ∷ []) (shown_of d o J)) (eq-eqb o o refl);
      longer = omega (arith, length-append J (e ∷ []));
    })

pub shows_posts : (d : Domain) (o : ℕ) (to : Target) (l l2 : Lists) (J K : List Entry) (ps : List Post) (vs : List Verdict) → AreSent o to l J ps vs l2 K → ShowsPosts d o J K to (posted_of ps vs)
shows_posts d o to l l2 J K [] vs w = shows_nobody d o J K to w.2
shows_posts d o to l l2 J K (p ∷ ps) [] w = absurd w
shows_posts d o to l l2 J K (p ∷ ps) (v ∷ vs) w =
    let h = shows_each d o l l2 J K (p ∷ ps) (v ∷ vs) w in
    record { others = h.others; opened = h.opened; state = h.state; shown = h.shown; longer = h.longer }

-- as many verdicts as posts
pub sent_long : (o : ℕ) (to : Target) (l l2 : Lists) (J K : List Entry) (ps : List Post) (vs : List Verdict) → AreSent o to l J ps vs l2 K → length vs ≡ length ps
sent_long o to l l2 J K [] vs w = ap length w.0
sent_long o to l l2 J K (p ∷ ps) vs w = judged_long o l l2 J K (p ∷ ps) vs w

-- after all of them
pub lists_all : (l l2 : Lists) (o capacity : ℕ) (J J2 : List Entry) (ps : List Post) (vs : List Verdict) → AreLists l o capacity J → AreJudged o l J ps vs l2 J2 → AreLists l2 o capacity J2
lists_all l l2 o capacity J J2 [] [] h w = subst (λ x. AreLists x o capacity J2) (sym w.0) (subst (AreLists l o capacity) (sym w.1) h)
lists_all l l2 o capacity J J2 [] (v ∷ vs) h w = absurd w
lists_all l l2 o capacity J J2 (p ∷ ps) [] h w = absurd w
lists_all l l2 o capacity J J2 (p ∷ ps) (v ∷ vs) h w = lists_all w.0 l2 o capacity (J ++ entry_of o p v ∷ []) J2 ps vs (lists_next l w.0 o capacity J p v h w.1) w.2

starts_none : (J : List Entry) (x o set : ℕ) → starts_at x (J ++ NoMember o set ∷ []) ≡ starts_at x J
starts_none J x o set = starts_more x J (NoMember o set) ∙ ap (λ rs. starts_at x J ++ rs) (none_of (x == o)) ∙ append-nil (starts_at x J)

lists_nobody : (l : Lists) (o capacity : ℕ) (to : Target) (J J2 : List Entry) → AreLists l o capacity J → NotesNobody o to J J2 → AreLists l o capacity J2
lists_nobody l o capacity (ToOne t) J J2 h is = subst (AreLists l o capacity) (sym is) h
lists_nobody l o capacity (ToMembers set) J J2 h is = subst (AreLists l o capacity) (sym is) (record {
  taken = λ x. h.taken x ∙ sym (starts_none J x o set);
  sent = h.sent;
  known = h.known;
  limit = h.limit;
})

-- likewise after a send, which may be to nobody
pub lists_sent : (l l2 : Lists) (o capacity : ℕ) (to : Target) (J J2 : List Entry) (ps : List Post) (vs : List Verdict) → AreLists l o capacity J → AreSent o to l J ps vs l2 J2 → AreLists l2 o capacity J2
lists_sent l l2 o capacity to J J2 [] vs h w = subst (λ x. AreLists x o capacity J2) (sym w.1) (lists_nobody l o capacity to J J2 h w.2)
lists_sent l l2 o capacity to J J2 (p ∷ ps) vs h w = lists_all l l2 o capacity J J2 (p ∷ ps) vs h w
