-- What is kept goes on saying what the journal says.
use Rattle.std.proofs.Common.{◌≡◌, ◌≢◌, ◌∙◌, sym, ap, refl, subst, arith, ℕ, zero, suc, ◌+◌, Bool, true, false, List, [], ◌∷◌, ◌++◌, length, map, length-append, append_assoc, None, Some}
use Rattle.std.specs.Prelude.{◌==◌, if◌then◌else◌, All, slice_get, slice_set}
use Rattle.std.proofs.lemmas.Bool.{eqb-true, eq-eqb}
use Rattle.std.proofs.lemmas.List.Elements.{All-weaker, All-map}
use Rattle.sml_domain.specs.Domain.{Domain}
use Rattle.smi_journal_entries.specs.declared.entry.ActionEnd.TheVariants.{State, Skipped}
use Rattle.smi_journal_entries.specs.declared.entry.Entry.{Entry}
use Rattle.smi_journal_entries.specs.declared.entry.Entry.TheVariants.{Start, Post, Wait, Seen, End, Kill, Insert, Remove, NoMember}
use Rattle.smi_journal_entries.specs.Words.{object_of, any_start, start_in, starts_at, initial_of, dead_of, state_by, state_of}
use Rattle.smi_journal_entries.proofs.OneMore.{state_more, starts_more}
use Rattle.smi_request_fates.specs.declared.counts.Counts.{Counts}
use Rattle.smi_request_fates.specs.declared.fate.Stands.{Stands}
use Rattle.smi_request_fates.specs.Fates.{is_end, ends_at, started_at, stands_of, fate_by, fate_of}
use Rattle.smi_request_fates.specs.Laws.{one_if}
use Rattle.smi_journal_entries.specs.declared.entry.Sender.{Sender}
use Rattle.smi_request_fates.specs.declared.fate.Came.{Came}
use Rattle.smi_request_fates.specs.declared.fate.Came.TheVariants as came
use Rattle.smi_request_fates.specs.Kept.{WatchedView, watched_request, FatesView, came_by, counts_by, answered_by, watched_next, CameSo, CountsTell, IsCame, StoodSo, FatesTell}
use Rattle.smi_request_fates.proofs.Adding.{one_more_fate}

-- ---- one object

no_more : (k : ℕ) → k ≡ k + 0
no_more k = omega arith

state_then : (dead : ℕ) (c : Counts) (e : Entry) → c.dead ≡ dead → (counts_by c e).state ≡ state_by dead c.state e
state_then dead c (Start x s n a xs) h = refl
state_then dead c (Post x t v a xs) h = refl
state_then dead c (Wait x) h = refl
state_then dead c (Seen x rs) h = refl
state_then dead c (End x (State q)) h = refl
state_then dead c (End x Skipped) h = refl
state_then dead c (Kill x k) h = h
state_then dead c (Insert x u set) h = refl
state_then dead c (Remove x u set) h = refl
state_then dead c (NoMember x set) h = refl

dead_then : (c : Counts) (e : Entry) → (counts_by c e).dead ≡ c.dead
dead_then c (Start x s n a xs) = refl
dead_then c (Post x t v a xs) = refl
dead_then c (Wait x) = refl
dead_then c (Seen x rs) = refl
dead_then c (End x (State q)) = refl
dead_then c (End x Skipped) = refl
dead_then c (Kill x k) = refl
dead_then c (Insert x u set) = refl
dead_then c (Remove x u set) = refl
dead_then c (NoMember x set) = refl

started_then : (c : Counts) (e : Entry) → (counts_by c e).started ≡ c.started + length (any_start e)
started_then c (Start x s n a xs) = refl
started_then c (Post x t v a xs) = no_more c.started
started_then c (Wait x) = no_more c.started
started_then c (Seen x rs) = no_more c.started
started_then c (End x (State q)) = no_more c.started
started_then c (End x Skipped) = no_more c.started
started_then c (Kill x k) = no_more c.started
started_then c (Insert x u set) = no_more c.started
started_then c (Remove x u set) = no_more c.started
started_then c (NoMember x set) = no_more c.started

ended_then : (c : Counts) (e : Entry) → (counts_by c e).ended ≡ c.ended + one_if (is_end e)
ended_then c (Start x s n a xs) = no_more c.ended
ended_then c (Post x t v a xs) = no_more c.ended
ended_then c (Wait x) = no_more c.ended
ended_then c (Seen x rs) = no_more c.ended
ended_then c (End x (State q)) = refl
ended_then c (End x Skipped) = no_more c.ended
ended_then c (Kill x k) = refl
ended_then c (Insert x u set) = no_more c.ended
ended_then c (Remove x u set) = no_more c.ended
ended_then c (NoMember x set) = no_more c.ended

-- the words of a journal, after one more entry of the object or of another
state_if : (d : Domain) (o : ℕ) (J : List Entry) (e : Entry) (b : Bool) → (o == object_of e) ≡ b → state_of d o (J ++ e ∷ []) ≡ (if b then state_by (dead_of d o) (state_of d o J) e else state_of d o J)
state_if d o J e b is = state_more o (initial_of d o) (dead_of d o) J e ∙ ap (λ t. if t then state_by (dead_of d o) (state_of d o J) e else state_of d o J) is

started_if : (o : ℕ) (J : List Entry) (e : Entry) (b : Bool) → (o == object_of e) ≡ b → started_at o (J ++ e ∷ []) ≡ started_at o J + length (if b then any_start e else [])
started_if o J e b is =
    ap length (starts_more o J e) ∙ length-append (starts_at o J) (start_in o e) ∙ ap (λ t. started_at o J + length (if t then any_start e else [])) is

ended_if : (d : Domain) (o : ℕ) (J : List Entry) (e : Entry) (b : Bool) → (o == object_of e) ≡ b → ends_at o (J ++ e ∷ []) ≡ ends_at o J + one_if (if b then is_end e else false)
ended_if d o J e b is = (one_more_fate d J e).ended o ∙ ap (λ t. ends_at o J + one_if (if t then is_end e else false)) is

counts_own : (d : Domain) (J : List Entry) (e : Entry) (o : ℕ) (c : Counts) → (o == object_of e) ≡ true → CountsTell d J o c → CountsTell d (J ++ e ∷ []) o (counts_by c e)
counts_own d J e o c is h = record {
  state = state_then (dead_of d o) c e h.dead ∙ ap (λ q. state_by (dead_of d o) q e) h.state ∙ sym (state_if d o J e true is);
  dead = dead_then c e ∙ h.dead;
  started = started_then c e ∙ ap (λ k. k + length (any_start e)) h.started ∙ sym (started_if o J e true is);
  ended = ended_then c e ∙ ap (λ k. k + one_if (is_end e)) h.ended ∙ sym (ended_if d o J e true is);
}

counts_other : (d : Domain) (J : List Entry) (e : Entry) (o : ℕ) (c : Counts) → (o == object_of e) ≡ false → CountsTell d J o c → CountsTell d (J ++ e ∷ []) o c
counts_other d J e o c is h = record {
  state = h.state ∙ sym (state_if d o J e false is);
  dead = h.dead;
  started = h.started ∙ no_more (started_at o J) ∙ sym (started_if o J e false is);
  ended = h.ended ∙ no_more (ends_at o J) ∙ sym (ended_if d o J e false is);
}

-- ---- each object

get_same : {A : Type 0} (xs : List A) (i : ℕ) (x y z : A) → slice_get xs i ≡ Some x → slice_get (slice_set xs i y) i ≡ Some z → y ≡ z
get_same [] zero x y z h g = absurd (cc h)
get_same [] (suc i) x y z h g = absurd (cc h)
get_same (w ∷ xs) zero x y z h g = cc g
get_same (w ∷ xs) (suc i) x y z h g = get_same xs i x y z h g

get_other : {A : Type 0} (xs : List A) (i j : ℕ) (y z : A) → j ≢ i → slice_get (slice_set xs i y) j ≡ Some z → slice_get xs j ≡ Some z
get_other [] i j y z n g = g
get_other (w ∷ xs) zero zero y z n g = absurd (n refl)
get_other (w ∷ xs) zero (suc j) y z n g = g
get_other (w ∷ xs) (suc i) zero y z n g = g
get_other (w ∷ xs) (suc i) (suc j) y z n g = get_other xs i j y z (λ e. n (ap suc e)) g

apart : (o x : ℕ) → (o == x) ≡ false → o ≢ x
apart o x is e = absurd (cc (sym is ∙ eq-eqb o x e))

counts_all : (d : Domain) (J : List Entry) (e : Entry) (counts : List Counts) (was : Counts) → slice_get counts (object_of e) ≡ Some was
    → ((o : ℕ) (c : Counts) → slice_get counts o ≡ Some c → CountsTell d J o c)
    → (o : ℕ) (c : Counts) → slice_get (slice_set counts (object_of e) (counts_by was e)) o ≡ Some c → CountsTell d (J ++ e ∷ []) o c
counts_all d J e counts was there h o c at = go (o == object_of e) refl
  where
    go : (b : Bool) → (o == object_of e) ≡ b → CountsTell d (J ++ e ∷ []) o c
    go true is =
        let same : o ≡ object_of e = eqb-true o (object_of e) is in
        let new : counts_by was e ≡ c = get_same counts (object_of e) was (counts_by was e) c there (subst (λ k. slice_get (slice_set counts (object_of e) (counts_by was e)) k ≡ Some c) same at) in
        subst (λ k. CountsTell d (J ++ e ∷ []) o k) new (counts_own d J e o was is (h o was (subst (λ k. slice_get counts k ≡ Some was) (sym same) there)))
    go false is = counts_other d J e o c is (h o c (get_other counts (object_of e) o (counts_by was e) c (apart o (object_of e) is) at))

-- ---- what became of requests

stood_more : (d : Domain) (J : List Entry) (e : Entry) (o : ℕ) (at : Stands) → StoodSo d J o at → StoodSo d (J ++ e ∷ []) o at
stood_more d J e o at h = record {
  front = h.front;
  back = h.back ++ e ∷ [];
  journal = ap (λ l. l ++ e ∷ []) h.journal ∙ append_assoc h.front h.back (e ∷ []);
  stands = h.stands;
}

fate_if : (d : Domain) (J : List Entry) (e : Entry) (o : ℕ) (s : Sender) (n : ℕ) (b : Bool) → (o == object_of e) ≡ b → fate_of d o s n (J ++ e ∷ []) ≡ (if b then fate_by s n (stands_of d o (J ++ e ∷ [])) (fate_of d o s n J) e else fate_of d o s n J)
fate_if d J e o s n b g = (one_more_fate d J e).fate o s n ∙ ap (λ t. if t then fate_by s n (stands_of d o (J ++ e ∷ [])) (fate_of d o s n J) e else fate_of d o s n J) g

-- after an entry of its object
came_own : (d : Domain) (J : List Entry) (e : Entry) (o : ℕ) (s : Sender) (n : ℕ) (at : Stands) (k : Came) → (o == object_of e) ≡ true → at ≡ stands_of d o (J ++ e ∷ []) → CameSo d J o s n k → CameSo d (J ++ e ∷ []) o s n (came_by s n at k e)
came_own d J e o s n at (came.Accepted f) g is h =
    ap (λ a. fate_by s n a f e) is ∙ ap (λ x. fate_by s n (stands_of d o (J ++ e ∷ [])) x e) h ∙ sym (fate_if d J e o s n true g)
came_own d J e o s n at (came.Refused None) g is h = tt
came_own d J e o s n at (came.Refused (Some a)) g is h = stood_more d J e o a h
came_own d J e o s n at (came.Past x) g is h = tt

-- after one of another object
came_other : (d : Domain) (J : List Entry) (e : Entry) (o : ℕ) (s : Sender) (n : ℕ) (k : Came) → (o == object_of e) ≡ false → CameSo d J o s n k → CameSo d (J ++ e ∷ []) o s n k
came_other d J e o s n (came.Accepted f) g h = h ∙ sym (fate_if d J e o s n false g)
came_other d J e o s n (came.Refused None) g h = tt
came_other d J e o s n (came.Refused (Some a)) g h = stood_more d J e o a h
came_other d J e o s n (came.Past x) g h = tt

came_one : (d : Domain) (J : List Entry) (e : Entry) (at : Stands) (w : WatchedView) → at ≡ stands_of d (object_of e) (J ++ e ∷ []) → IsCame d J w → IsCame d (J ++ e ∷ []) (watched_next (object_of e) at e w)
came_one d J e at w is h = go (w.object == object_of e) refl
  where
    go : (b : Bool) → (w.object == object_of e) ≡ b → IsCame d (J ++ e ∷ []) (if b then record w { came = came_by w.sender w.number at w.came e } else w)
    go true g =
        let same : object_of e ≡ w.object = sym (eqb-true w.object (object_of e) g) in
        came_own d J e w.object w.sender w.number at w.came g (is ∙ ap (λ o. stands_of d o (J ++ e ∷ [])) same) h
    go false g = came_other d J e w.object w.sender w.number w.came g h

-- ---- all of it

pub tells_more : (d : Domain) (J : List Entry) (e : Entry) (f g : FatesView) (was : Counts) (at : Stands)
    → slice_get f.counts (object_of e) ≡ Some was → g.counts ≡ slice_set f.counts (object_of e) (counts_by was e)
    → at ≡ record { state = (counts_by was e).state; ended = (counts_by was e).ended } → g.watched ≡ map (watched_next (object_of e) at e) f.watched
    → FatesTell d J f → FatesTell d (J ++ e ∷ []) g
tells_more d J e f g was at there counts stands watched h =
    let own = counts_own d J e (object_of e) was (eq-eqb (object_of e) (object_of e) refl) (h.counts (object_of e) was there) in
    let is : at ≡ stands_of d (object_of e) (J ++ e ∷ []) =
    stands ∙ ap (λ (q : ℕ). mk q (counts_by was e).ended) own.state ∙ ap (λ (k : ℕ). mk (state_of d (object_of e) (J ++ e ∷ [])) k) own.ended in
    record {
      counts = subst (λ cs. (o : ℕ) (c : Counts) → slice_get cs o ≡ Some c → CountsTell d (J ++ e ∷ []) o c) (sym counts) (counts_all d J e f.counts was there h.counts);
      came = subst (λ ws. All (IsCame d (J ++ e ∷ [])) ws) (sym watched)
          (All-map (IsCame d (J ++ e ∷ [])) (watched_next (object_of e) at e) f.watched
          (All-weaker (IsCame d J) (λ w. IsCame d (J ++ e ∷ []) (watched_next (object_of e) at e w)) (λ w i. came_one d J e at w is i) f.watched h.came));
    }
  where
    mk : ℕ → ℕ → Stands
    mk q k = record { state = q; ended = k }

-- ---- the requests that are watched stay

same_answered : (s : Sender) (n : ℕ) (at : Stands) (k : Came) (e : Entry) → answered_by (came_by s n at k e) ≡ answered_by k
same_answered s n at (came.Accepted f) e = refl
same_answered s n at (came.Refused x) e = refl
same_answered s n at (came.Past x) e = refl

same_request : (o : ℕ) (at : Stands) (e : Entry) (w : WatchedView) → watched_request (watched_next o at e w) ≡ watched_request w
same_request o at e w = go (w.object == o)
  where
    go : (b : Bool) → watched_request (if b then record w { came = came_by w.sender w.number at w.came e } else w) ≡ watched_request w
    go true = ap (λ b. record { object = w.object; sender = w.sender; number = w.number; answered = b }) (same_answered w.sender w.number at w.came e)
    go false = refl

pub same_requests : (o : ℕ) (at : Stands) (e : Entry) (ws : List WatchedView) → map watched_request (map (watched_next o at e) ws) ≡ map watched_request ws
same_requests o at e [] = refl
same_requests o at e (w ∷ ws) =
    ap (λ r. r ∷ map watched_request (map (watched_next o at e) ws)) (same_request o at e w) ∙ ap (λ rs. watched_request w ∷ rs) (same_requests o at e ws)
