-- Each step keeps the rule of a mailbox.
use Rattle.std.proofs.Common.{◌≡◌, ◌≢◌, ◌⊎◌, ℕ, zero, suc, ◌<◌, ◌≤◌, ◌==◌, List, [], ◌∷◌, ◌++◌, length, set, Some, None, true, false, cond, refl, sym, ap, ◌∙◌, subst, inl, inr, ⊎_elim, arith, append_assoc}
use Rattle.std.specs.Prelude.{slice_get, slice_index_or}
use Rattle.std.proofs.lemmas.List.{append-nil, length_push, nil_from_length, get_or_past}
use Rattle.std.proofs.lemmas.List.Elements.{All-push, All-head, All-tail}
use Rattle.std.proofs.lemmas.Bool.{cases_lt, cases_eq, ne_eqb, eq-eqb}
use Rattle.std.proofs.lemmas.Option.{slice_get-get_or, slice_get_within}
use mathlib.Core.Option.{some, some-ne-none, some-injective}
use lib.ListN.{get_elem?}
use Rattle.crossbeam_queue.specs.Fifo.{Pushes, Pops, Forks, Merges, Learns}
use Rattle.crossbeam_queue.proofs.Lists.{at_set}
use Rattle.smi_journal_entries.specs.declared.entry.Sender.{Sender}
use Rattle.smi_journal_entries.specs.declared.entry.Sender.TheVariants.{Operator, Object}
use Rattle.smi_journal_entries.specs.declared.letter.Letter.{Letter}
use Rattle.smi_mail.specs.declared.rule.Kind.{Kind}
use Rattle.smi_mail.specs.declared.rule.BoardView.{BoardView}
use Rattle.smi_mail.specs.declared.rule.SessionView.{SessionView}
use Rattle.smi_mail.specs.declared.rule.Knows.{Knows}
use Rattle.smi_mail.specs.declared.rule.Knows.TheVariants.{Board, Session, Nothing}
use Rattle.smi_mail.specs.Letters.{is_same, letters_from, IsNumbered, IsFor, AreAllFor}
use Rattle.smi_mail.specs.Rule.{no_kind, unnamed, view_named, with_session, session_of, new_session, view_joined, drained, HasDrained, Settles, sent_of, add_known, KeepsRule, Facts, KnowsBoard, KnowsSession, IsTrueView, IsWhole, add_sent, add_own, add_taken, after_send, HasTaken, Holds}
use Rattle.smi_mail.proofs.Lists.{Each, each_set, each_snoc, from-append, from-one, from-none, balanced-more, numbered-more, is_same-self, is_same-true, is_same-operators, slice_get-at, slice_get-snoc}

-- the facts after x was sent
abbrev sent_more : Facts → Letter → Facts
sent_more f x = record f { sent = λ s. f.sent s ++ letters_from s (x ∷ []) }

-- what a sender sent is the same where x is of another
same_sent : (f : Facts) (s : Sender) (x : Letter) → is_same s x.sender ≡ false → f.sent s ++ letters_from s (x ∷ []) ≡ f.sent s
same_sent f s x apart = ap (λ l. f.sent s ++ l) (from-none s x apart) ∙ append-nil (f.sent s)

-- a session that did not send x
session_apart : (f : Facts) (x : Letter) (pass : ℕ) (s : SessionView) → is_same (Operator s.session) x.sender ≡ false → KnowsSession f pass s → KnowsSession (sent_more f x) pass s
session_apart f x pass s apart k = record { here = k.here; kind = k.kind; capacity = k.capacity; sent = k.sent ∙ sym (same_sent f (Operator s.session) x apart) }

board_others : (f : Facts) (items : List Letter) (x : Letter) (a port j : ℕ) (u : Knows) → x.sender ≡ Object a → port ≡ f.board → j ≢ port → IsTrueView f items j u → IsTrueView (sent_more f x) (items ++ x ∷ []) j u
board_others f items x a port j (Board c) by here apart k = absurd (apart (k.here ∙ sym here))
board_others f items x a port j (Session s) by here apart k = session_apart f x j s (ap (is_same (Operator s.session)) by) k
board_others f items x a port j Nothing by here apart k = tt

-- what all pushes keep
push_kept : (items : List Letter) (views views' : List Knows) (x : Letter) (h : KeepsRule items views) (cap : ℕ) → length items < cap → cap ≡ h.facts.capacity → IsFor h.facts.kind x → x.number ≡ length (h.facts.sent x.sender)
    → Each (IsTrueView (sent_more h.facts x) (items ++ x ∷ [])) views' → KeepsRule (items ++ x ∷ []) views'
push_kept items views views' x h cap room is fits number each =
    let f = h.facts in
    let long = length_push items x in
    record {
      facts = sent_more f x;
      balanced = λ s. balanced-more s f.taken items x ∙ ap (λ l. l ++ letters_from s (x ∷ [])) (h.balanced s);
      numbered = λ s. numbered-more s (f.sent s) x (h.numbered s) (λ e. subst (λ t. x.number ≡ length (f.sent t)) (sym (is_same-true s x.sender e)) number);
      fit = All-push (IsFor f.kind) items x h.fit fits;
      room = omega arith;
      each = each;
    }

pub board_sends : (n port : ℕ) (b : BoardView) (x : Letter) (a : ℕ) → n ≡ b.capacity → b.most ≡ b.capacity → x.sender ≡ Object a → IsFor b.kind x → x.number ≡ length (letters_from (Object a) b.sent)
    → Pushes KeepsRule n port (Board b) x (λ w. w ≡ after_send (Board b) x)
board_sends n port b x a cap most by fits number items views room h at =
    let mine = h.each port (Board b) at in
    let f = h.facts in
    let long = length_push items x in
    let same : (k : ℕ) → f.sent (Operator k) ++ letters_from (Operator k) (x ∷ []) ≡ f.sent (Operator k) = λ k. same_sent f (Operator k) x (ap (is_same (Operator k)) by) in (
      Board (add_sent b x),
      push_kept items views (set views port (Board (add_sent b x))) x h n room (cap ∙ mine.capacity) (subst (λ d. IsFor d x) mine.kind fits) (number ∙ ap length (mine.sent a) ∙ ap (λ t. length (f.sent t)) (sym by))
          (each_set (IsTrueView (sent_more f x) (items ++ x ∷ [])) views port (Board (add_sent b x))
          (record {
            here = mine.here;
            kind = mine.kind;
            capacity = mine.capacity;
            taken = mine.taken;
            sent = λ c. from-append (Object c) b.sent (x ∷ []) ∙ ap (λ l. l ++ letters_from (Object c) (x ∷ [])) (mine.sent c);
            later = λ k le. ((mine.later k le).0, same k ∙ (mine.later k le).1);
            known = λ k xs e. ((mine.known k xs e).0, same k ∙ (mine.known k xs e).1);
            ended = mine.ended;
            most = λ whole. omega arith;
          })
          (λ j u apart e. board_others f items x a port j u by mine.here apart (h.each j u e))),
      refl,
    )

-- the seat of a session that may send
seated : (f : Facts) (items : List Letter) (j k port : ℕ) (c : BoardView) → KnowsBoard f items j c → f.seat k ≡ Some port → (k < c.made) × ((xs : List Letter) → slice_get c.known k ≡ Some xs → ⊥)
seated f items j k port c kb here = (below (cases_lt k c.made), λ xs e. absurd (cc (here, (kb.known k xs e).0)))
  where
    below : (k < c.made) ⊎ (c.made ≤ k) → k < c.made
    below (inl lt) = lt
    below (inr le) = absurd (cc (here, (kb.later k le).0))

session_others : (f : Facts) (items : List Letter) (x : Letter) (i port j : ℕ) (u : Knows) → x.sender ≡ Operator i → f.seat i ≡ Some port → j ≢ port → IsTrueView f items j u → IsTrueView (sent_more f x) (items ++ x ∷ []) j u
session_others f items x i port j (Session s) by here apart k =
    session_apart f x j s (ap (is_same (Operator s.session)) by ∙ is_same-operators s.session i (λ e. apart (cc (here, k.here, e)))) k
session_others f items x i port j Nothing by here apart k = tt
session_others f items x i port j (Board c) by here apart kb =
    let sits = seated f items j i port c kb here in
    let other : (k : ℕ) → f.seat k ≡ None → f.sent (Operator k) ++ letters_from (Operator k) (x ∷ []) ≡ f.sent (Operator k) = λ k none. same_sent f (Operator k) x (ap (is_same (Operator k)) by ∙ is_same-operators k i (λ e. absurd (cc (here, none, e)))) in
    let object : (a : ℕ) → f.sent (Object a) ++ letters_from (Object a) (x ∷ []) ≡ f.sent (Object a) = λ a. same_sent f (Object a) x (ap (is_same (Object a)) by) in
    record {
      here = kb.here;
      kind = kb.kind;
      capacity = kb.capacity;
      taken = kb.taken;
      sent = λ a. kb.sent a ∙ sym (object a);
      later = λ k le. ((kb.later k le).0, other k (kb.later k le).0 ∙ (kb.later k le).1);
      known = λ k xs e. ((kb.known k xs e).0, other k (kb.known k xs e).0 ∙ (kb.known k xs e).1);
      ended = kb.ended;
      most = λ whole. absurd (sits.1 _ (slice_get-get_or c.known i [] (omega (arith, sits.0, whole))));
    }

pub session_sends : (n port : ℕ) (s : SessionView) (x : Letter) → n ≡ s.capacity → x.sender ≡ Operator s.session → IsFor s.kind x → x.number ≡ length s.sent
    → Pushes KeepsRule n port (Session s) x (λ w. w ≡ after_send (Session s) x)
session_sends n port s x cap by fits number items views room h at =
    let mine = h.each port (Session s) at in
    let f = h.facts in (
      Session (add_own s x),
      push_kept items views (set views port (Session (add_own s x))) x h n room (cap ∙ mine.capacity) (subst (λ d. IsFor d x) mine.kind fits) (number ∙ ap length mine.sent ∙ ap (λ t. length (f.sent t)) (sym by))
          (each_set (IsTrueView (sent_more f x) (items ++ x ∷ [])) views port (Session (add_own s x))
          (record {
            here = mine.here;
            kind = mine.kind;
            capacity = mine.capacity;
            sent = ap (λ l. l ++ x ∷ []) mine.sent ∙ ap (λ l. f.sent (Operator s.session) ++ l) (sym (from-one (Operator s.session) x (ap (is_same (Operator s.session)) by ∙ is_same-self (Operator s.session))));
          })
          (λ j u apart e. session_others f items x s.session port j u by mine.here apart (h.each j u e))),
      refl,
    )

-- of a sender whose envelopes are numbered, the next one has the count of those before it as its number
next_number : (s : Sender) (taken items all : List Letter) (x : Letter) → letters_from s (taken ++ x ∷ items) ≡ all → IsNumbered all → is_same s x.sender ≡ true → x.number ≡ length (letters_from s taken)
next_number s taken items all x e h is =
    let here : letters_from s (taken ++ x ∷ items) ≡ letters_from s taken ++ x ∷ letters_from s items = from-append s taken (x ∷ items) ∙ ap (λ b. letters_from s taken ++ cond b (x ∷ letters_from s items) (letters_from s items)) is in
    h (length (letters_from s taken)) x (ap (λ l. slice_get l (length (letters_from s taken))) (sym e ∙ here) ∙ slice_get-at (letters_from s taken) (letters_from s items) x)

taken_others : (f g : Facts) (x : Letter) (items : List Letter) (port j : ℕ) (u : Knows) → port ≡ f.board → g ≡ record f { taken = f.taken ++ x ∷ [] } → j ≢ port → IsTrueView f (x ∷ items) j u → IsTrueView g items j u
taken_others f g x items port j (Board c) here is apart k = absurd (apart (k.here ∙ sym here))
taken_others f g x items port j (Session s) here is apart k = rw is (record { here = k.here; kind = k.kind; capacity = k.capacity; sent = k.sent })
taken_others f g x items port j Nothing here is apart k = tt

-- what was taken, before anything is left
taken_is : (f : Facts) (items : List Letter) (port : ℕ) (b : BoardView) → b.left ≡ [] → KnowsBoard f items port b → b.taken ≡ f.taken
taken_is f items port b none k = sym (append-nil b.taken) ∙ ap (λ l. b.taken ++ l) (sym none) ∙ k.taken

pub takes : (port : ℕ) (b : BoardView) → b.most ≡ b.capacity → b.left ≡ [] → Pops KeepsRule port (Board b) (HasTaken (Board b))
takes port b most none x items views h at =
    let mine = h.each port (Board b) at in
    let f = h.facts in
    let taken : b.taken ≡ f.taken = taken_is f (x ∷ items) port b none mine in
    let taken' = f.taken ++ x ∷ [] in
    let g : Facts = record f { taken = taken' } in
    let w = add_taken b x in
    let balanced : (s : Sender) → letters_from s (taken' ++ items) ≡ f.sent s = λ s. ap (letters_from s) (append_assoc f.taken (x ∷ []) items) ∙ h.balanced s in
    let start : (a : ℕ) → letters_from (Object a) (b.taken ++ x ∷ []) ++ letters_from (Object a) items ≡ letters_from (Object a) b.sent =
    λ a. ap (λ l. letters_from (Object a) (l ++ x ∷ []) ++ letters_from (Object a) items) taken ∙ sym (from-append (Object a) taken' items) ∙ balanced (Object a) ∙ sym (mine.sent a) in (
      Board w,
      record {
        facts = g;
        balanced = balanced;
        numbered = h.numbered;
        fit = All-tail (IsFor f.kind) x items h.fit;
        room = omega (arith, h.room);
        each = each_set (IsTrueView g items) views port (Board w)
            (record {
              here = mine.here;
              kind = mine.kind;
              capacity = mine.capacity;
              taken = ap (λ l. (b.taken ++ x ∷ []) ++ l) none ∙ append-nil (b.taken ++ x ∷ []) ∙ ap (λ l. l ++ x ∷ []) taken;
              sent = mine.sent;
              later = mine.later;
              known = mine.known;
              ended = mine.ended;
              most = λ whole. omega (arith, h.room, mine.capacity);
            })
            (λ j u apart e. taken_others f g x items port j u mine.here refl apart (h.each j u e));
      },
      (
        refl,
        subst (λ d. IsFor d x) (sym mine.kind) (All-head (IsFor f.kind) x items h.fit),
        next_number x.sender b.taken items (f.sent x.sender) x (ap (λ l. letters_from x.sender (l ++ x ∷ items)) taken ∙ h.balanced x.sender) (h.numbered x.sender) (is_same-self x.sender),
        λ a. (letters_from (Object a) items, start a),
      ),
    )

-- what the board learns
pub holds : (port : ℕ) (b : BoardView) → b.left ≡ [] → Learns KeepsRule port (Board b) (Holds (Board b))
holds port b none items views h at =
    let mine = h.each port (Board b) at in
    λ a. mine.sent a ∙ sym (h.balanced (Object a)) ∙ from-append (Object a) h.facts.taken items ∙ ap (λ l. letters_from (Object a) l ++ letters_from (Object a) items) (sym (taken_is h.facts items port b none mine))

pub begins : KeepsRule [] (unnamed ∷ [])
begins = record {
  facts = record { board = 0; seat = λ k. None; sent = λ s. []; taken = []; kind = no_kind; capacity = 0 };
  balanced = λ s. refl;
  numbered = λ s k e is. absurd cc;
  fit = λ k d lt. absurd (omega arith);
  room = omega arith;
  each = one;
}
  where
    f : Facts
    f = record { board = 0; seat = λ k. None; sent = λ s. []; taken = []; kind = no_kind; capacity = 0 }

    empty : (k : ℕ) (xs : List Letter) → slice_get ([] ∷ []) k ≡ Some xs → [] ≡ xs
    empty zero xs is = cc (is)
    empty (suc k) xs is = absurd (cc (is))

    one : (pass : ℕ) (v : Knows) → get_elem? (unnamed ∷ []) pass ≡ some v → IsTrueView f [] pass v
    one zero v e = subst (IsTrueView f [] 0) (some-injective _ _ e) (record { here = refl; kind = refl; capacity = refl; taken = refl; sent = λ a. refl; later = λ k le. (refl, refl); known = λ k xs is. (refl, empty k xs is); ended = omega arith; most = λ whole. omega arith })
    one (suc pass) v e = absurd (some-ne-none v (sym e))

-- no session has a seat yet
no_session : (f : Facts) (port : ℕ) (c : BoardView) → KnowsBoard f [] port c → (c.made ≡ 1) × (c.known ≡ [] ∷ []) → (k : ℕ) → f.seat k ≡ None
no_session f port c mine none zero = (mine.known 0 [] (ap (λ l. slice_get l 0) none.1)).0
no_session f port c mine none (suc k) = (mine.later (suc k) (omega (arith, none.0))).0

named_others : (f g : Facts) (d : Kind) (n port j : ℕ) (c : BoardView) (u : Knows) → KnowsBoard f [] port c → (c.made ≡ 1) × (c.known ≡ [] ∷ []) → g ≡ record f { kind = d; capacity = n } → j ≢ port → IsTrueView f [] j u → IsTrueView g [] j u
named_others f g d n port j c (Board b) mine none is apart k = absurd (apart (k.here ∙ sym mine.here))
named_others f g d n port j c (Session s) mine none is apart k = absurd (cc (k.here, no_session f port c mine none s.session))
named_others f g d n port j c Nothing mine none is apart k = tt

pub names : (port : ℕ) (b : BoardView) (d : Kind) (n : ℕ) → (b.made ≡ 1) × (b.known ≡ [] ∷ []) → b.capacity ≡ 0 → Forks KeepsRule port (Board b) (view_named d n (Board b)) Nothing
names port b d n none nil items views h at =
    let mine = h.each port (Board b) at in
    let f = h.facts in
    let g : Facts = record f { kind = d; capacity = n } in
    let empty : items ≡ [] = nil_from_length items (omega (arith, h.room, mine.capacity)) in
    let w = view_named d n (Board b) in
    let views' : List Knows = set views port w in
    let was : (j : ℕ) (u : Knows) → get_elem? views j ≡ some u → IsTrueView f [] j u = λ j u e. subst (λ l. IsTrueView f l j u) empty (h.each j u e) in
    let mine' = was port (Board b) at in
    let all : Each (IsTrueView g []) (views' ++ Nothing ∷ []) =
    each_snoc (IsTrueView g []) views' Nothing
    (each_set (IsTrueView g []) views port w
    (record { here = mine'.here; kind = refl; capacity = refl; taken = mine'.taken; sent = mine'.sent; later = mine'.later; known = mine'.known; ended = mine'.ended; most = λ whole. omega arith })
    (λ j u apart e. named_others f g d n port j b u mine' none refl apart (was j u e)))
    tt in
    record {
      facts = g;
      balanced = h.balanced;
      numbered = h.numbered;
      fit = subst (AreAllFor d) (sym empty) (λ k e lt. absurd (omega arith));
      room = omega (arith, ap length empty);
      each = subst (λ l. Each (IsTrueView g l) (views' ++ Nothing ∷ [])) (sym empty) all;
    }

-- the facts with one more session, at that pass
abbrev seat_more : Facts → ℕ → ℕ → Facts
seat_more f k pass = record f { seat = λ j. cond (j == k) (Some pass) (f.seat j) }

seat_other : (f : Facts) (k pass j : ℕ) → j ≢ k → (seat_more f k pass).seat j ≡ f.seat j
seat_other f k pass j n = ap (λ b. cond b (Some pass) (f.seat j)) (ne_eqb j k n)

seat_here : (f : Facts) (k pass : ℕ) → (seat_more f k pass).seat k ≡ Some pass
seat_here f k pass = ap (λ b. cond b (Some pass) (f.seat k)) (eq-eqb k k refl)

seats_others : (f : Facts) (items : List Letter) (pass port j : ℕ) (b : BoardView) (u : Knows) → KnowsBoard f items port b → j ≢ port → IsTrueView f items j u → IsTrueView (seat_more f b.made pass) items j u
seats_others f items pass port j b (Board c) mine apart k = absurd (apart (k.here ∙ sym mine.here))
seats_others f items pass port j b (Session s) mine apart k = record {
  here = seat_other f b.made pass s.session (λ e. absurd (cc (k.here, ap f.seat e, (mine.later b.made (omega arith)).0))) ∙ k.here;
  kind = k.kind;
  capacity = k.capacity;
  sent = k.sent;
}
seats_others f items pass port j b Nothing mine apart k = tt

pub seats : (port : ℕ) (b : BoardView) → Forks KeepsRule port (Board b) (with_session (Board b)) (session_of (Board b))
seats port b items views h at =
    let mine = h.each port (Board b) at in
    let f = h.facts in
    let w = with_session (Board b) in
    let r = session_of (Board b) in
    let views' : List Knows = set views port w in
    let pass = length views' in
    let g = seat_more f b.made pass in
    let left : Each (IsTrueView g items) views' =
    each_set (IsTrueView g items) views port w
    (record {
      here = mine.here;
      kind = mine.kind;
      capacity = mine.capacity;
      taken = mine.taken;
      sent = mine.sent;
      later = λ k le. (seat_other f b.made pass k (λ e. absurd (omega arith)) ∙ (mine.later k (omega arith)).0, (mine.later k (omega arith)).1);
      known = λ k xs e. (let lt = slice_get_within b.known k xs e in seat_other f b.made pass k (λ e. absurd (omega (arith, mine.ended))) ∙ (mine.known k xs e).0, (mine.known k xs e).1);
      ended = omega (arith, mine.ended);
      most = λ whole. absurd (omega (arith, mine.ended));
    })
    (λ j u apart e. seats_others f items pass port j b u mine apart (h.each j u e)) in
    let new : KnowsSession g pass (new_session b) = record { here = seat_here f b.made pass; kind = mine.kind; capacity = mine.capacity; sent = sym (mine.later b.made (omega arith)).1 } in
    record {
      facts = g;
      balanced = h.balanced;
      numbered = h.numbered;
      fit = h.fit;
      room = h.room;
      each = each_snoc (IsTrueView g items) views' r left new;
    }

-- the facts once a session has ended
abbrev seat_less : Facts → ℕ → Facts
seat_less f k = record f { seat = λ j. cond (j == k) None (f.seat j) }

less_other : (f : Facts) (k j : ℕ) → j ≢ k → (seat_less f k).seat j ≡ f.seat j
less_other f k j n = ap (λ b. cond b None (f.seat j)) (ne_eqb j k n)

less_here : (f : Facts) (k j : ℕ) → j ≡ k → (seat_less f k).seat j ≡ None
less_here f k j e = ap (λ b. cond b None (f.seat j)) (eq-eqb j k e)

less_none : (f : Facts) (k j : ℕ) → f.seat j ≡ None → (seat_less f k).seat j ≡ None
less_none f k j e = ⊎_elim (λ is. less_here f k j is) (λ n. less_other f k j n ∙ e) (cases_eq j k)

ended_others : (f : Facts) (items : List Letter) (port other j : ℕ) (b : BoardView) (s : SessionView) (u : Knows) → KnowsBoard f items port b → f.seat s.session ≡ Some other → j ≢ port → j ≢ other → IsTrueView f items j u
    → IsTrueView (seat_less f s.session) items j u
ended_others f items port other j b s (Board c) mine sits apart apart' k = absurd (apart (k.here ∙ sym mine.here))
ended_others f items port other j b s (Session t) mine sits apart apart' k =
    record { here = less_other f s.session t.session (λ e. apart' (cc (k.here, sits, ap f.seat e))) ∙ k.here; kind = k.kind; capacity = k.capacity; sent = k.sent }
ended_others f items port other j b s Nothing mine sits apart apart' k = tt

pub merges : (port : ℕ) (b : BoardView) (other : ℕ) (s : SessionView) → s.session ≡ length b.known → b.most ≡ b.capacity → Merges KeepsRule port (Board b) other (Session s) (view_joined (Board b) (Session s)) Nothing
merges port b other s order most items views h at apart at' =
    let mine = h.each port (Board b) at in
    let f = h.facts in
    let w = Board (add_known b s.sent) in
    let views' : List Knows = set views port w in
    let was : get_elem? views other ≡ some (Session s) = ⊎_elim (λ x. absurd (apart x.0)) (λ x. x.1) (at_set views port other w (Session s) at') in
    let theirs = h.each other (Session s) was in
    let sits = seated f items port s.session other b mine theirs.here in
    let g = seat_less f s.session in
    let known : (k : ℕ) (xs : List Letter) → slice_get (b.known ++ s.sent ∷ []) k ≡ Some xs → (g.seat k ≡ None) × (f.sent (Operator k) ≡ xs) =
    λ k xs e. ⊎_elim (λ t. (less_none f s.session k (mine.known k xs t).0, (mine.known k xs t).1))
    (λ (t : (k ≡ length b.known) × (s.sent ≡ xs)). (less_here f s.session k (t.0 ∙ sym order), ap (λ j. f.sent (Operator j)) (t.0 ∙ sym order) ∙ sym theirs.sent ∙ t.1))
    (slice_get-snoc b.known s.sent xs k e) in
    let long = length_push b.known s.sent in
    let board : KnowsBoard g items port (add_known b s.sent) =
    record {
      here = mine.here;
      kind = mine.kind;
      capacity = mine.capacity;
      taken = mine.taken;
      sent = mine.sent;
      later = λ k le. (less_none f s.session k (mine.later k le).0, (mine.later k le).1);
      known = known;
      ended = omega (arith, sits.0);
      most = λ whole. omega (arith, h.room, mine.capacity);
    } in
    let Now : ℕ → Knows → Type 0 = λ j u. j ≢ other → IsTrueView g items j u in
    let now : Each Now views' = each_set Now views port w (λ _. board) (λ j u n e n'. ended_others f items port other j b s u mine theirs.here n n' (h.each j u e)) in
    record {
      facts = g;
      balanced = h.balanced;
      numbered = h.numbered;
      fit = h.fit;
      room = h.room;
      each = each_set (IsTrueView g items) views' other Nothing tt (λ j u n e. now j u e n);
    }

pub drains : (port : ℕ) (b : BoardView) → IsWhole b → Pops KeepsRule port (Board b) (HasDrained (Board b))
drains port b whole x items views h at =
    let mine = h.each port (Board b) at in
    let f = h.facts in
    let taken' = f.taken ++ x ∷ [] in
    let g : Facts = record f { taken = taken' } in
    let w = drained b x in
    let most = mine.most whole in (
      Board w,
      record {
        facts = g;
        balanced = λ s. ap (letters_from s) (append_assoc f.taken (x ∷ []) items) ∙ h.balanced s;
        numbered = h.numbered;
        fit = All-tail (IsFor f.kind) x items h.fit;
        room = omega (arith, h.room);
        each = each_set (IsTrueView g items) views port (Board w)
            (record {
              here = mine.here;
              kind = mine.kind;
              capacity = mine.capacity;
              taken = sym (append_assoc b.taken b.left (x ∷ [])) ∙ ap (λ l. l ++ x ∷ []) mine.taken;
              sent = mine.sent;
              later = mine.later;
              known = mine.known;
              ended = mine.ended;
              most = λ _. omega arith;
            })
            (λ j u apart e. taken_others f g x items port j u mine.here refl apart (h.each j u e));
      },
      (refl, omega arith),
    )

-- what a sender sent, once the board is whole
sent_is : (f : Facts) (items : List Letter) (port : ℕ) (b : BoardView) → IsWhole b → KnowsBoard f items port b → (s : Sender) → sent_of b s ≡ f.sent s
sent_is f items port b whole mine (Object a) = mine.sent a
sent_is f items port b whole mine (Operator k) = ⊎_elim (λ lt. sym (mine.known k (slice_index_or b.known k []) (slice_get-get_or b.known k [] (omega (arith, whole)))).1)
    (λ le. get_or_past b.known k [] (omega (arith, whole)) ∙ sym (mine.later k le).1)
    (cases_lt k b.made)

pub settles : (port : ℕ) (b : BoardView) → IsWhole b → Learns KeepsRule port (Board b) (Settles (Board b))
settles port b whole items views h at s =
    let mine = h.each port (Board b) at in
    sent_is h.facts items port b whole mine s ∙ sym (h.balanced s) ∙ ap (λ l. letters_from s (l ++ items)) (sym mine.taken) ∙ ap (letters_from s) (append_assoc b.taken b.left items) ∙ from-append s b.taken (b.left ++ items)

-- the moves, at a view that is known
pub session_sends_as : (n port : ℕ) (v : Knows) (s : SessionView) (x : Letter) → v ≡ Session s → n ≡ s.capacity → x.sender ≡ Operator s.session → IsFor s.kind x → x.number ≡ length s.sent
    → Pushes KeepsRule n port v x (λ w. w ≡ after_send v x) × Learns KeepsRule port v (λ items. Unit {0})
session_sends_as n port v s x is cap by fits number = (subst (λ (u : Knows). Pushes KeepsRule n port u x (λ w. w ≡ after_send u x)) (sym is) (session_sends n port s x cap by fits number), λ items views h at. tt)

pub board_sends_as : (n port : ℕ) (v : Knows) (b : BoardView) (x : Letter) (a : ℕ) → v ≡ Board b → n ≡ b.capacity → b.most ≡ b.capacity → x.sender ≡ Object a → IsFor b.kind x → x.number ≡ length (letters_from (Object a) b.sent)
    → Pushes KeepsRule n port v x (λ w. w ≡ after_send v x) × Learns KeepsRule port v (λ items. Unit {0})
board_sends_as n port v b x a is cap most by fits number = (subst (λ (u : Knows). Pushes KeepsRule n port u x (λ w. w ≡ after_send u x)) (sym is) (board_sends n port b x a cap most by fits number), λ items views h at. tt)

pub takes_as : (port : ℕ) (v : Knows) (b : BoardView) → v ≡ Board b → b.most ≡ b.capacity → b.left ≡ [] → Pops KeepsRule port v (HasTaken v) × Learns KeepsRule port v (Holds v)
takes_as port v b is most none = subst (λ (u : Knows). Pops KeepsRule port u (HasTaken u) × Learns KeepsRule port u (Holds u)) (sym is) (takes port b most none, holds port b none)

pub drains_as : (port : ℕ) (v : Knows) (b : BoardView) → v ≡ Board b → IsWhole b → Pops KeepsRule port v (HasDrained v) × Learns KeepsRule port v (Settles v)
drains_as port v b is whole = subst (λ (u : Knows). Pops KeepsRule port u (HasDrained u) × Learns KeepsRule port u (Settles u)) (sym is) (drains port b whole, settles port b whole)

pub seats_as : (port : ℕ) (v : Knows) (b : BoardView) → v ≡ Board b → Forks KeepsRule port v (with_session v) (session_of v)
seats_as port v b is = subst (λ (u : Knows). Forks KeepsRule port u (with_session u) (session_of u)) (sym is) (seats port b)

pub merges_as : (port : ℕ) (v : Knows) (b : BoardView) (other : ℕ) (u : Knows) (s : SessionView) → v ≡ Board b → u ≡ Session s → s.session ≡ length b.known → b.most ≡ b.capacity → Merges KeepsRule port v other u (view_joined v u) Nothing
merges_as port v b other u s is is' order most = subst (λ (y : Knows × Knows). Merges KeepsRule port y.0 other y.1 (view_joined y.0 y.1) Nothing) (λ i. (sym is i, sym is' i)) (merges port b other s order most)

pub names_as : (port : ℕ) (v : Knows) (d : Kind) (n : ℕ) → v ≡ unnamed → Forks KeepsRule port v (view_named d n v) Nothing
names_as port v d n is = subst (λ (u : Knows). Forks KeepsRule port u (view_named d n u) Nothing) (sym is) (names port _ d n (refl, refl) refl)
