-- What is followed is within a send exactly if one of its posts is expected next.
use Rattle.std.proofs.Common.{◌≡◌, ◌∙◌, ℕ, ◌+◌, Bool, List, [], ◌∷◌, ◌++◌, length, map, refl, sym, ap, subst, inl, inr, arith, append_assoc, length-append, Option, Some, None}
use Rattle.std.specs.Prelude.{◌⊎◌}
use Rattle.std.proofs.lemmas.List.{length-map, map-append}
use Rattle.sml_domain.specs.declared.value.Value.{Value}
use Rattle.sml_domain.specs.Program.{Subject, Target, ToOne, ToMembers, Program, Nothing, SetThen, SendThen, SendNoneThen, IfThen, EndIn, TerminateIn, WaitThen, ChangeThen}
use Rattle.sml_domain.specs.Domain.{Domain}
use Rattle.smi_journal_entries.specs.declared.entry.Entry.{Entry}
use Rattle.smi_journal_entries.specs.declared.entry.Verdict.TheVariants.{Dead}
use Rattle.smi_journal_entries.specs.declared.journal.Format.TheVariants.{Two}
use Rattle.smi_journal_entries.specs.Sets.{Sets, members_in}
use Rattle.smi_journal_entries.specs.Words.{Item, Sent, HadNone, Saw, Turned, shown_of}
use Rattle.smi_meaning.specs.Items.{Post, Posted, Sending, item_of, sent_shown}
use Rattle.smi_meaning.specs.Environment.{Env}
use Rattle.smi_meaning.specs.Meaning.{Move, DidSet, DidSend, DidRead, DidChange, Means, Wanted, post_of, post_to, wanted}
use Rattle.smi_meaning.specs.Steps.{After}
use Rattle.smi_meaning.specs.Shown.{items_of, shown_moves, sets_of, question_in, AreSame, Question, ToPost, ToChange}
use Rattle.smi_meaning.specs.Laws.{ComesNext, LeadsTo}
use Rattle.smi_meaning.specs.Legal.{ShowsNext, BlockEnds, PostIsWithin}
use Rattle.smi_meaning.specs.Params.{env_of}
use Rattle.smi_meaning.proofs.Blocks.{first, leads_to}
use Rattle.smi_meaning.proofs.Showing.{nobody_shown}
use Rattle.smi_meaning.proofs.Journals.{next_is_legal, legal_is_next, done_or_shows}
use Rattle.smi_meaning.proofs.Within.{same_count}
use Rattle.smi_interp.specs.Expanded.{posts_in}
use Rattle.smi_audit_follower.specs.declared.follower.Expected.{Expected}
use Rattle.smi_audit_follower.specs.declared.follower.Expected.TheVariants as expected
use Rattle.smi_audit_follower.specs.Expecting.{PostsNext, SendsNext, FollowerReadsNext, send_question}
use Rattle.smi_audit_follower.specs.Following.{FollowerView, Asks, MayShow, MayTell, FollowerMayEnd}
use Rattle.smi_audit_follower.specs.Laws.{IsFollowed, ShownIsLegal, EndIsLegal}
use Rattle.smi_audit.specs.Pasts.{TrackShows}
use Rattle.smi_audit.specs.Splitting.{IsNextPost, post_expected}

-- ---- lists of what is shown

nothing : (xs : List Item) (x : Item) (ys : List Item) → [] ≡ xs ++ x ∷ ys → ⊥
nothing [] x ys e = absurd (cc e)
nothing (z ∷ xs) x ys e = absurd (cc e)

-- an item of two lists together is in the first, or in the second
abbrev Stands : List Item → List Item → List Item → Item → List Item → Type 0
Stands front back xs x ys =
    ((after : List Item) × (front ≡ xs ++ x ∷ after)) ⊎ ((zs : List Item) × (xs ≡ front ++ zs) × (back ≡ zs ++ x ∷ ys))

stands_in : (front back xs : List Item) (x : Item) (ys : List Item) → front ++ back ≡ xs ++ x ∷ ys
    → Stands front back xs x ys
stands_in [] back xs x ys e = inr (xs, refl, e)
stands_in (a ∷ front) back [] x ys e =
    let same : a ≡ x = cc e in
    inl (front, ap (λ k. k ∷ front) same)
stands_in (a ∷ front) back (z ∷ zs) x ys e =
    let same : a ≡ z = cc e in
    let tail : front ++ back ≡ zs ++ x ∷ ys = cc e in
    go same (stands_in front back zs x ys tail)
  where
    go : a ≡ z → Stands front back zs x ys → Stands (a ∷ front) back (z ∷ zs) x ys
    go same (inl h) = inl (h.0, ap (λ k. k ∷ front) same ∙ ap (λ l. z ∷ l) h.1)
    go same (inr h) = inr (h.0, ap (λ k. k ∷ zs) (sym same) ∙ ap (λ l. a ∷ l) h.1, h.2)

-- the move that shows an item of what moves show
record AtMove (ms : List Move) (xs : List Item) (x : Item) : Type 0 where
  made : List Move
  move : Move
  rest : List Move
  before : List Item
  after : List Item
  is : ms ≡ made ++ move ∷ rest
  items : items_of move ≡ before ++ x ∷ after
  shown : xs ≡ shown_moves made ++ before

at_move : (ms : List Move) (xs : List Item) (x : Item) (ys : List Item) → shown_moves ms ≡ xs ++ x ∷ ys → AtMove ms xs x
at_move [] xs x ys e = absurd (nothing xs x ys e)
at_move (m ∷ ms) xs x ys e = go (at_move ms) (stands_in (items_of m) (shown_moves ms) xs x ys e)
  where
    more : (zs : List Item) → xs ≡ items_of m ++ zs → AtMove ms zs x → AtMove (m ∷ ms) xs x
    more zs front h = record {
      made = m ∷ h.made;
      move = h.move;
      rest = h.rest;
      before = h.before;
      after = h.after;
      is = ap (λ l. m ∷ l) h.is;
      items = h.items;
      shown = front ∙ ap (λ l. items_of m ++ l) h.shown ∙ sym (append_assoc (items_of m) (shown_moves h.made) h.before);
    }

    go : ((zs : List Item) (y : Item) (ws : List Item) → shown_moves ms ≡ zs ++ y ∷ ws → AtMove ms zs y)
        → Stands (items_of m) (shown_moves ms) xs x ys → AtMove (m ∷ ms) xs x
    go later (inl h) = record {
      made = [];
      move = m;
      rest = ms;
      before = xs;
      after = h.0;
      is = refl;
      items = h.1;
      shown = refl;
    }
    go later (inr h) = more h.0 h.1 (later h.0 x ys h.2)

-- ---- posts of a send

-- the post that an item of a send shows
record AtPost (sets : Sets) (posts : List Posted) (xs : List Item) (x : Item) : Type 0 where
  front : List Posted
  one : Posted
  behind : List Posted
  is : posts ≡ front ++ one ∷ behind
  before : map (item_of sets) front ≡ xs
  item : item_of sets one ≡ x

at_post : (sets : Sets) (posts : List Posted) (xs : List Item) (x : Item) (ys : List Item)
    → map (item_of sets) posts ≡ xs ++ x ∷ ys → AtPost sets posts xs x
at_post sets [] xs x ys e = absurd (nothing xs x ys e)
at_post sets (p ∷ ps) [] x ys e = record { front = []; one = p; behind = ps; is = refl; before = refl; item = cc e }
at_post sets (p ∷ ps) (z ∷ zs) x ys e =
    let same : item_of sets p ≡ z = cc e in
    let tail : map (item_of sets) ps ≡ zs ++ x ∷ ys = cc e in
    let h = at_post sets ps zs x ys tail in
    record {
      front = p ∷ h.front;
      one = h.one;
      behind = h.behind;
      is = ap (λ l. p ∷ l) h.is;
      before = ap (λ l. item_of sets p ∷ l) h.before ∙ ap (λ k. k ∷ zs) same;
      item = h.item;
    }

-- a move that shows an item behind others is a send, of which the first of the others shows a post
record InSend (m : Move) (z : Item) (zs : List Item) (x : Item) : Type 0 where
  sending : Sending
  is_send : m ≡ DidSend sending
  first : Posted
  front : List Posted
  one : Posted
  behind : List Posted
  posts : sending.posts ≡ (first ∷ front) ++ one ∷ behind
  before : map (item_of sending.sets) (first ∷ front) ≡ z ∷ zs
  item : item_of sending.sets one ≡ x

in_posts : (s : Sending) (to : Target) (posts : List Posted) (z : Item) (zs : List Item) (x : Item)
    (ys : List Item) → s.posts ≡ posts → sent_shown s.sets to posts ≡ (z ∷ zs) ++ x ∷ ys → InSend (DidSend s) z zs x
in_posts s (ToOne o) [] z zs x ys is e = absurd (cc e)
in_posts s (ToMembers set) [] z zs x ys is e =
    let none : [] ≡ zs ++ x ∷ ys = cc e in
    absurd (nothing zs x ys none)
in_posts s to (p ∷ ps) z zs x ys is e =
    let same : item_of s.sets p ≡ z = cc e in
    let tail : map (item_of s.sets) ps ≡ zs ++ x ∷ ys = cc e in
    let h = at_post s.sets ps zs x ys tail in
    record {
      sending = s;
      is_send = refl;
      first = p;
      front = h.front;
      one = h.one;
      behind = h.behind;
      posts = is ∙ ap (λ l. p ∷ l) h.is;
      before = ap (λ l. item_of s.sets p ∷ l) h.before ∙ ap (λ k. k ∷ zs) same;
      item = h.item;
    }

in_send : (m : Move) (z : Item) (zs : List Item) (x : Item) (ys : List Item) → items_of m ≡ (z ∷ zs) ++ x ∷ ys
    → InSend m z zs x
in_send (DidSet p v) z zs x ys e = absurd (cc e)
in_send (DidRead k) z zs x ys e =
    let none : [] ≡ zs ++ x ∷ ys = cc e in
    absurd (nothing zs x ys none)
in_send (DidChange add o set) z zs x ys e =
    let none : [] ≡ zs ++ x ∷ ys = cc e in
    absurd (nothing zs x ys none)
in_send (DidSend s) z zs x ys e = in_posts s s.to s.posts z zs x ys refl e

-- ---- where a send stands that is not begun

-- other members than these
abbrev others : Sets → Sets
others sets = None ∷ sets

are_others : (sets : Sets) → others sets ≡ sets → ⊥
are_others sets e =
    let long : length (None ∷ sets) ≡ length sets = ap (λ (l : Sets). length l) e in
    absurd (omega (arith, long))

-- posts of these requests
abbrev posts_with : List Post → List Posted
posts_with [] = []
posts_with (p ∷ ps) = record { post = p; verdict = Dead } ∷ posts_with ps

posts_of_with : (ps : List Post) → map post_of (posts_with ps) ≡ ps
posts_of_with [] = refl
posts_of_with (p ∷ ps) = ap (λ l. p ∷ l) (posts_of_with ps)

-- a first move that shows something by these members
record OtherMove (d : Domain) (left : Program) (env : Env) (sets : Sets) : Type 0 where
  move : Move
  left2 : Program
  env2 : Env
  after : After d left env move left2 env2
  item : Item
  more : List Item
  items : items_of move ≡ item ∷ more
  by : sets_of item ≡ Some sets

-- a send to some shows its first post, and one to a set without members shows that
sent_first : (sets : Sets) (set : ℕ) (posts : List Posted) → (item : Item) × (more : List Item)
    × (sent_shown sets (ToMembers set) posts ≡ item ∷ more) × (sets_of item ≡ Some sets)
sent_first sets set [] = (HadNone sets set, [], refl, refl)
sent_first sets set (p ∷ ps) = (item_of sets p, map (item_of sets) ps, refl, refl)

-- a block that may begin with a post may begin with one by any other members, or with none to a set
other_move : (d : Domain) (left : Program) (env : Env) (m : Move) (left2 : Program) (env2 : Env)
    (sets other : Sets) (t a : ℕ) (args : List Value) (more : List Item) → After d left env m left2 env2
    → items_of m ≡ Sent sets t Dead a args ∷ more → OtherMove d left env other
other_move d Nothing env m left2 env2 sets other t a args more h e = absurd h
other_move d (EndIn s) env m left2 env2 sets other t a args more h e = absurd h
other_move d (TerminateIn s) env m left2 env2 sets other t a args more h e = absurd h
other_move d (SetThen p x rest) env m left2 env2 sets other t a args more h e =
    let none : [] ≡ Sent sets t Dead a args ∷ more = sym (ap items_of h.0) ∙ e in
    absurd (cc none)
other_move d (SendThen (ToOne o) act vs rest) env m left2 env2 sets other t a args more h e =
    let ws = wanted d (members_in d other) (ToOne o) act vs env in
    let s : Sending = record { sets = other; to = ToOne o; posts = posts_with ws } in
    record {
      move = DidSend s;
      left2 = rest;
      env2 = env;
      after = (s, refl, (refl, posts_of_with ws), refl, refl);
      item = item_of other (record { post = post_to d act vs env o; verdict = Dead });
      more = [];
      items = refl;
      by = refl;
    }
other_move d (SendThen (ToMembers set) act vs rest) env m left2 env2 sets other t a args more h e =
    let ws = wanted d (members_in d other) (ToMembers set) act vs env in
    let s : Sending = record { sets = other; to = ToMembers set; posts = posts_with ws } in
    let f = sent_first other set (posts_with ws) in
    record {
      move = DidSend s;
      left2 = rest;
      env2 = env;
      after = (s, refl, (refl, posts_of_with ws), refl, refl);
      item = f.0;
      more = f.1;
      items = f.2;
      by = f.3;
    }
other_move d (SendNoneThen set rest) env m left2 env2 sets other t a args more h e =
    let none : HadNone h.0.sets set ∷ [] ≡ Sent sets t Dead a args ∷ more =
    sym (ap items_of h.1 ∙ nobody_shown set h.0 h.2) ∙ e in
    let both : HadNone h.0.sets set ≡ Sent sets t Dead a args = cc none in
    absurd (cc both)
other_move d (IfThen f p q rest) env m left2 env2 sets other t a args more h e =
    let both : Saw h.0 ∷ [] ≡ Sent sets t Dead a args ∷ more = sym (ap items_of h.1) ∙ e in
    absurd (cc both)
other_move d (WaitThen names rest) env m left2 env2 sets other t a args more h e =
    let both : Saw h.0 ∷ [] ≡ Sent sets t Dead a args ∷ more = sym (ap items_of h.1) ∙ e in
    absurd (cc both)
other_move d (ChangeThen add o set rest) env m left2 env2 sets other t a args more h e =
    let both : Turned add o set ∷ [] ≡ Sent sets t Dead a args ∷ more = sym (ap items_of h.0) ∙ e in
    absurd (cc both)

-- ---- a post that is expected

-- any post of this request
abbrev any_post : Sets → Post → Item
any_post sets p = Sent sets p.target Dead p.action p.args

-- a post that shows as this one is of its request
post_is : (sets other : Sets) (q : Posted) (p : Post) → item_of sets q ≡ any_post other p → p ≡ post_of q
post_is sets other q p e =
    let asked : ToPost q.post ≡ ToPost p = ap question_in e in
    cc asked

sets_are : (sets other : Sets) (q : Posted) (p : Post) → item_of sets q ≡ any_post other p → sets ≡ other
sets_are sets other q p e = cc e

-- where posts of this request go by these members alone, the send is begun
within_of : ShownIsLegal → (d : Domain) (J : List Entry) (o : ℕ) (f : FollowerView) (p : Post)
    → IsFollowed Two d J o f → PostsNext f p → PostIsWithin d J o p
within_of law d J o f p h n = go at.before refl
  where
    sets : Sets
    sets = n.0

    item : Item
    item = Sent sets p.target Dead p.action p.args

    shown : ShowsNext Two d J o item
    shown = (law Two d J o f item h).1 ((n.1 item).1 (refl, refl))

    at : AtMove shown.shows.0 (shown_of d o J) item
    at = at_move shown.shows.0 (shown_of d o J) item shown.shows.3
        (shown.shows.5 ∙ append_assoc (shown_of d o J) (item ∷ []) shown.shows.3)

    leads : LeadsTo d shown.run.program (env_of shown.own shown.run) at.made (at.move ∷ at.rest) shown.shows.1
        shown.shows.2
    leads = leads_to d shown.run.program (env_of shown.own shown.run) at.made (at.move ∷ at.rest) shown.shows.1
        shown.shows.2 (subst (λ ms. Means d shown.run.program (env_of shown.own shown.run) ms shown.shows.1
        shown.shows.2) at.is shown.shows.4)

    next : (left2 : Program) × (env2 : Env) × After d leads.0 leads.1 at.move left2 env2
        × Means d left2 env2 at.rest shown.shows.1 shown.shows.2
    next = first d leads.0 leads.1 at.move at.rest shown.shows.1 shown.shows.2 leads.3

    fresh : at.before ≡ [] → ⊥
    fresh none =
        let whole : shown_of d o J ≡ shown_moves at.made ++ [] = at.shown ∙ ap (λ l. shown_moves at.made ++ l) none in
        let m = other_move d leads.0 leads.1 at.move next.0 next.1 sets (others sets) p.target p.action p.args
        at.after next.2 (at.items ∙ ap (λ l. l ++ item ∷ at.after) none) in
        let also : ShowsNext Two d J o m.item =
        next_is_legal Two d J o shown.own shown.run at.made leads.0 leads.1 m.move m.left2 m.env2 [] m.item m.more
        shown.params shown.runs leads.2 m.after m.items whole in
        let both : Some (others sets) ≡ Some sets = sym m.by ∙ ((n.1 m.item).0 ((law Two d J o f m.item h).0 also)).0 in
        let same : others sets ≡ sets = cc both in
        are_others sets same

    begun : (z : Item) (zs : List Item) → at.before ≡ z ∷ zs → PostIsWithin d J o p
    begun z zs some =
        let s = in_send at.move z zs item at.after (at.items ∙ ap (λ l. l ++ item ∷ at.after) some) in
        let same : s.sending.sets ≡ sets = sets_are s.sending.sets sets s.one p s.item in
        record {
          own = shown.own;
          params = shown.params;
          run = shown.run;
          runs = shown.runs;
          made = at.made;
          left = leads.0;
          env = leads.1;
          leads = leads.2;
          sending = s.sending;
          left2 = next.0;
          env2 = next.1;
          after = subst (λ k. After d leads.0 leads.1 k next.0 next.1) s.is_send next.2;
          first = s.first;
          front = s.front;
          one = s.one;
          behind = s.behind;
          posts = s.posts;
          shown = at.shown ∙ ap (λ l. shown_moves at.made ++ l) (some ∙ sym s.before);
          is = post_is s.sending.sets sets s.one p s.item;
        }

    go : (l : List Item) → at.before ≡ l → PostIsWithin d J o p
    go [] none = absurd (fresh none)
    go (z ∷ zs) some = begun z zs some

-- ---- nothing else is expected within a send

-- the next post of a send may be shown
within_shows : (d : Domain) (J : List Entry) (o : ℕ) (p : Post) → (w : PostIsWithin d J o p)
    → ShowsNext Two d J o (item_of w.sending.sets w.one)
within_shows d J o p w =
    let k = w.sending.sets in
    let items : items_of (DidSend w.sending) ≡ map (item_of k) (w.first ∷ w.front) ++ item_of k w.one ∷ map
    (item_of k) w.behind =
    ap (λ l. sent_shown k w.sending.to l) w.posts ∙ map-append (item_of k) (w.first ∷ w.front) (w.one ∷ w.behind) in
    next_is_legal Two d J o w.own w.run w.made w.left w.env (DidSend w.sending) w.left2 w.env2
    (map (item_of k) (w.first ∷ w.front)) (item_of k w.one) (map (item_of k) w.behind) w.params w.runs w.leads
    w.after items w.shown

-- and what is shown next goes by the members of the send
within_by : (d : Domain) (J : List Entry) (o : ℕ) (p : Post) (w : PostIsWithin d J o p) (item : Item)
    → ShowsNext Two d J o item → sets_of item ≡ Some w.sending.sets
within_by d J o p w item s = go (stands_in (items_of next.0) (shown_moves comes.rest) before item next.1 comes.shown)
  where
    k : Sets
    k = w.sending.sets

    before : List Item
    before = map (item_of k) (w.first ∷ w.front)

    next : (m : Move) × (behind : List Item) × ComesNext d w.left w.env m (before ++ item ∷ behind)
    next = legal_is_next Two d J o w.own w.run w.made w.left w.env before item w.params w.runs w.leads w.shown s

    comes : ComesNext d w.left w.env next.0 (before ++ item ∷ next.1)
    comes = next.2

    step : (left2 : Program) × (env2 : Env) × After d w.left w.env next.0 left2 env2
        × Means d left2 env2 comes.rest comes.end comes.outcome
    step = first d w.left w.env next.0 comes.rest comes.end comes.outcome comes.means

    long : length (items_of next.0) ≡ length w.sending.posts
    long = same_count d w.left w.env w.sending next.0 w.left2 step.0 w.env2 step.1 w.first (shown_moves comes.rest)
        (map (item_of k) w.front ++ item ∷ next.1) w.after step.2 comes.shown

    all : length w.sending.posts ≡ length (w.first ∷ w.front) + length (w.one ∷ w.behind)
    all = ap (λ (l : List Posted). length l) w.posts ∙ length-append (w.first ∷ w.front) (w.one ∷ w.behind)

    go : Stands (items_of next.0) (shown_moves comes.rest) before item next.1 → sets_of item ≡ Some k
    go (inl h) =
        let i = in_send next.0 (item_of k w.first) (map (item_of k) w.front) item h.0 h.1 in
        let head : item_of i.sending.sets i.first ≡ item_of k w.first = cc i.before in
        let same : i.sending.sets ≡ k = cc head in
        sym (ap sets_of i.item) ∙ ap (λ l. Some l) same
    go (inr h) =
        let few : length before ≡ length (items_of next.0) + length h.0 =
        ap (λ (l : List Item). length l) h.1 ∙ length-append (items_of next.0) h.0 in
        let count : length before ≡ length (w.first ∷ w.front) = length-map (w.first ∷ w.front) (item_of k) in
        absurd (omega (arith, long, all, few, count))

-- something that asks what a send asks first by these members
asked_by : (sets : Sets) (to : Target) (posts : List Post) (q : Question) → send_question to posts ≡ Some q
    → (item : Item) × (sets_of item ≡ Some sets) × (question_in item ≡ q)
asked_by sets (ToOne o) [] q e = absurd (cc e)
asked_by sets (ToMembers set) [] q e = (HadNone sets set, refl, cc e)
asked_by sets (ToOne o) (p ∷ ps) q e = (any_post sets p, refl, cc e)
asked_by sets (ToMembers set) (p ∷ ps) q e = (any_post sets p, refl, cc e)

two_told : (f : FollowerView) (sets : Sets) → f.format ≡ Two → MayTell f.format f.domain sets
two_told f sets is = subst (λ x. MayTell x f.domain sets) (sym is) tt

-- where a send is expected, it is not begun
not_sends : ShownIsLegal → (d : Domain) (J : List Entry) (o : ℕ) (f : FollowerView) (p : Post) (sent : Wanted)
    → IsFollowed Two d J o f → SendsNext f sent → PostIsWithin d J o p → ⊥
not_sends law d J o f p sent h sends w =
    let sets : Sets = others w.sending.sets in
    let n = sends sets (two_told f sets h.format_is) in
    let x = asked_by sets sent.target (posts_in f.domain sets sent) n.0 n.1 in
    let may : MayShow f x.0 = (n.2 x.0 (subst (λ k. AreSame k (Some sets)) (sym x.1) refl)).1 x.2 in
    let both : Some sets ≡ Some w.sending.sets = sym x.1 ∙ within_by d J o p w x.0 ((law Two d J o f x.0 h).1 may) in
    let same : sets ≡ w.sending.sets = cc both in
    are_others w.sending.sets same

-- nor is any where something else is asked
not_asks : ShownIsLegal → (d : Domain) (J : List Entry) (o : ℕ) (f : FollowerView) (p : Post) (q : Question)
    → ((post : Post) → ToPost post ≡ q → ⊥) → IsFollowed Two d J o f → ((sets : Sets) → Asks f sets q)
    → PostIsWithin d J o p → ⊥
not_asks law d J o f p q apart h asks w =
    let x : Item = item_of w.sending.sets w.one in
    apart w.one.post ((asks w.sending.sets x refl).0 ((law Two d J o f x h).0 (within_shows d J o p w)))

not_reads : ShownIsLegal → (d : Domain) (J : List Entry) (o : ℕ) (f : FollowerView) (p : Post) (names : List Subject)
    → IsFollowed Two d J o f → FollowerReadsNext f names → PostIsWithin d J o p → ⊥
not_reads law d J o f p names h reads w =
    let sets : Sets = w.sending.sets in
    let x : Item = item_of sets w.one in
    let e = (reads sets (two_told f sets h.format_is) x refl).0 ((law Two d J o f x h).0 (within_shows d J o p w)) in
    absurd (cc e)

not_ends : EndIsLegal → (d : Domain) (J : List Entry) (o : ℕ) (f : FollowerView) (p : Post) (s : ℕ)
    → IsFollowed Two d J o f → FollowerMayEnd f s → PostIsWithin d J o p → ⊥
not_ends law d J o f p s h ends w =
    let b : BlockEnds Two d J o s = (law Two d J o f s h).1 ends in
    done_or_shows Two d J o b.own b.env2 b.outcome (item_of w.sending.sets w.one) b.params b.done
    (within_shows d J o p w)

-- ---- what is followed

no_change : (add : Bool) (member set : ℕ) (post : Post) → ToPost post ≡ ToChange add member set → ⊥
no_change add member set post e = absurd (cc e)

pub next_post : ShownIsLegal → EndIsLegal → (was : Option FollowerView) (e : Expected) (r : Option Post)
    → TrackShows was e → r ≡ post_expected e → IsNextPost was r
next_post law ends None e r shows is = absurd shows
next_post law ends (Some f) (expected.Post post) r shows is =
    subst (IsNextPost (Some f)) (sym is) (λ d J o h. within_of law d J o f post.now h shows)
next_post law ends (Some f) (expected.Send sent) r shows is =
    subst (IsNextPost (Some f)) (sym is) (λ d J o p h. not_sends law d J o f p sent.now h shows)
next_post law ends (Some f) (expected.Read names) r shows is =
    subst (IsNextPost (Some f)) (sym is) (λ d J o p h. not_reads law d J o f p names.now h shows)
next_post law ends (Some f) (expected.Change add member set) r shows is =
    subst (IsNextPost (Some f)) (sym is) (λ d J o p h. not_asks law d J o f p (ToChange add member set)
    (no_change add member set) h shows)
next_post law ends (Some f) (expected.End s) r shows is =
    subst (IsNextPost (Some f)) (sym is) (λ d J o p h. not_ends ends d J o f p s h shows)
