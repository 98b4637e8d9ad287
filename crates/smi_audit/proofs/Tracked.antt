-- The tracks say what the journal says, after one more entry.
use Rattle.std.proofs.Common.{◌≡◌, ◌≢◌, ◌<◌, ◌==◌, ℕ, zero, suc, Bool, true, false, cond, List, [], ◌∷◌, ◌++◌, length, Option, Some, None, map, refl, sym, ap, ◌∙◌, subst, ⊎_elim, append-nil}
use Rattle.std.specs.Prelude.{is_some, option_map, slice_set, replicate, MatchBool, ◌&&◌, not, if◌then◌else◌}
use Rattle.std.specs.Option.{option_and_then}
use Rattle.std.proofs.lemmas.Bool.{cases_eq, eqb-true, eqb-false, eq-eqb, ne_eqb}
use Rattle.std.proofs.lemmas.List.{get_or-set_same, get_or-set_other, length-set, length-replicate, map-append}
use Rattle.sml_domain.specs.declared.value.Value.{Value}
use Rattle.sml_domain.specs.Domain.{Domain}
use Rattle.sml_domain.specs.Lookups.{associated_at, block_at, class_params_at, program_at, tree_of_block}
use Rattle.sml_domain.specs.Truth.{Reading}
use Rattle.smi_journal_entries.specs.declared.letter.Letter.{Letter}
use Rattle.smi_journal_entries.specs.declared.entry.Verdict.{Verdict}
use Rattle.smi_journal_entries.specs.declared.entry.Verdict.TheVariants.{Accepted, Full, Dead}
use Rattle.smi_journal_entries.specs.declared.entry.ActionEnd.{ActionEnd}
use Rattle.smi_journal_entries.specs.declared.entry.ActionEnd.TheVariants.{State, Skipped}
use Rattle.smi_journal_entries.specs.declared.entry.Cause.{Cause}
use Rattle.smi_journal_entries.specs.declared.entry.Entry.{Entry}
use Rattle.smi_journal_entries.specs.declared.entry.Entry.TheVariants.{Post, Wait, Seen, End, Kill, Insert, Remove, NoMember}
use Rattle.smi_journal_entries.specs.declared.journal.Format.{Format}
use Rattle.smi_journal_entries.specs.Sets.{sets_after}
use Rattle.smi_journal_entries.specs.Words.{Item, Sent, HadNone, Saw, Turned, object_of, start_of, open_at, opened_by, shown_of, shown_by, state_of, state_by, initial_of, dead_of, posts_between, posted_to}
use Rattle.smi_journal_entries.proofs.OneMore.{open_more, shown_more, state_more, posts_more}
use Rattle.smi_meaning.specs.Params.{Running, run_with, running_at, LeavesParams, is_logical_at, ParamsAfter, ParamsNext}
use Rattle.smi_meaning.specs.Quiet.{said_of_block}
use Rattle.smi_meaning.proofs.Parameters.{params_more}
use Rattle.smi_meaning.proofs.Leaving.{others_change_nothing, devices_give_states}
use Rattle.smi_audit_follower.specs.Following.{FollowerView, EndsIn, with_item, followed}
use Rattle.smi_audit_follower.specs.Laws.{IsFollowed, EndsLeave}
use Rattle.smi_audit.specs.declared.calls.Call.{Call}
use Rattle.smi_audit.specs.Views.{TrackView}
use Rattle.smi_audit.specs.Tracks.{calls_to, request_of_call, IsFollowing, IsTracked, first_track, no_track, track_at, AreTracked, begins_in, calls_with}

-- ---- words after an entry

-- what runs, by what is open and in which state
abbrev pub runs_in : Format → Domain → ℕ → ℕ → Option Letter → Option Running
runs_in format d o s opened =
    option_and_then (λ (l : Letter). option_map (run_with l.args)
    (option_map (said_of_block format d) (program_at d o s l.action))) opened

open_elsewhere : (J : List Entry) (e : Entry) (x : ℕ) → x ≢ object_of e → open_at x (J ++ e ∷ []) ≡ open_at x J
open_elsewhere J e x apart = open_more x J e ∙ rw (ne_eqb x (object_of e) apart) refl

state_elsewhere : (d : Domain) (J : List Entry) (e : Entry) (x : ℕ) → x ≢ object_of e
    → state_of d x (J ++ e ∷ []) ≡ state_of d x J
state_elsewhere d J e x apart = state_more x (initial_of d x) (dead_of d x) J e ∙ rw (ne_eqb x (object_of e) apart) refl

shown_elsewhere : (d : Domain) (J : List Entry) (e : Entry) (x : ℕ) → x ≢ object_of e
    → shown_of d x (J ++ e ∷ []) ≡ shown_of d x J
shown_elsewhere d J e x apart = shown_more d x J e ∙ rw (ne_eqb x (object_of e) apart) refl

posts_elsewhere : (J : List Entry) (e : Entry) (x b : ℕ) → x ≢ object_of e
    → posts_between x b (J ++ e ∷ []) ≡ posts_between x b J
posts_elsewhere J e x b apart =
    posts_more x b J e ∙ ap (λ t. posts_between x b J ++ cond t (posted_to b e) []) (ne_eqb x (object_of e) apart)
    ∙ append-nil (posts_between x b J)

open_here : (J : List Entry) (e : Entry) → open_at (object_of e) (J ++ e ∷ []) ≡ opened_by (open_at (object_of e) J) e
open_here J e =
    open_more (object_of e) J e ∙ ap (λ t. cond t (opened_by (open_at (object_of e) J) e)
    (open_at (object_of e) J)) (eq-eqb (object_of e) (object_of e) refl)

state_here : (d : Domain) (J : List Entry) (e : Entry)
    → state_of d (object_of e) (J ++ e ∷ []) ≡ state_by (dead_of d (object_of e)) (state_of d (object_of e) J) e
state_here d J e =
    state_more (object_of e) (initial_of d (object_of e)) (dead_of d (object_of e)) J e
    ∙ ap (λ t. cond t (state_by (dead_of d (object_of e)) (state_of d (object_of e) J) e)
    (state_of d (object_of e) J)) (eq-eqb (object_of e) (object_of e) refl)

shown_here : (d : Domain) (J : List Entry) (e : Entry)
    → shown_of d (object_of e) (J ++ e ∷ []) ≡ shown_by (sets_after d J) (shown_of d (object_of e) J) e
shown_here d J e =
    shown_more d (object_of e) J e
    ∙ ap (λ t. cond t (shown_by (sets_after d J) (shown_of d (object_of e) J) e) (shown_of d (object_of e) J))
    (eq-eqb (object_of e) (object_of e) refl)

posts_here : (J : List Entry) (e : Entry) (b : ℕ) → posts_between (object_of e) b (J ++ e ∷ []) ≡ posts_between
    (object_of e) b J ++ posted_to b e
posts_here J e b =
    posts_more (object_of e) b J e ∙ ap (λ t. posts_between (object_of e) b J ++ cond t (posted_to b e) [])
    (eq-eqb (object_of e) (object_of e) refl)

runs_same : (format : Format) (d : Domain) (J K : List Entry) (o : ℕ) → state_of d o K ≡ state_of d o J
    → open_at o K ≡ open_at o J → running_at format d o K ≡ running_at format d o J
runs_same format d J K o state opened =
    ap (λ s. runs_in format d o s (open_at o K)) state ∙ ap (runs_in format d o (state_of d o J)) opened

-- ---- followers

-- a follower that shows no more
followed_still : (format : Format) (d : Domain) (J K : List Entry) (o : ℕ) (f : FollowerView)
    → state_of d o K ≡ state_of d o J → open_at o K ≡ open_at o J → shown_of d o K ≡ shown_of d o J
    → (ParamsAfter format d o J f.own → ParamsAfter format d o K f.own)
    → IsFollowed format d J o f → IsFollowed format d K o f
followed_still format d J K o f state opened shown params h = record {
  format_is = h.format_is;
  domain = h.domain;
  object = h.object;
  state = h.state ∙ sym state;
  params = params h.params;
  opened = opened ∙ h.opened;
  declared = h.declared;
  shown = h.shown ∙ sym shown;
}

following_still : (format : Format) (d : Domain) (J K : List Entry) (o : ℕ) (f : Option FollowerView)
    → state_of d o K ≡ state_of d o J → open_at o K ≡ open_at o J → shown_of d o K ≡ shown_of d o J
    → ((own : List Value) → ParamsAfter format d o J own → ParamsAfter format d o K own)
    → IsFollowing format d J o f → IsFollowing format d K o f
following_still format d J K o None state opened shown params h = runs_same format d J K o state opened ∙ h
following_still format d J K o (Some f) state opened shown params h =
    followed_still format d J K o f state opened shown (params f.own) h

-- a follower that shows one more item
followed_on : (format : Format) (d : Domain) (J K : List Entry) (o : ℕ) (f : FollowerView) (item : Item)
    → state_of d o K ≡ state_of d o J → open_at o K ≡ open_at o J → shown_of d o K ≡ shown_of d o J ++ item ∷ []
    → ParamsAfter format d o K f.own
    → IsFollowed format d J o f → IsFollowed format d K o (with_item f item)
followed_on format d J K o f item state opened shown params h = record {
  format_is = h.format_is;
  domain = h.domain;
  object = h.object;
  state = h.state ∙ sym state;
  params = params;
  opened = opened ∙ h.opened;
  declared = h.declared;
  shown = ap (λ xs. xs ++ item ∷ []) h.shown ∙ sym shown;
}

-- where nothing is open nothing runs
none_runs : (format : Format) (d : Domain) (K : List Entry) (o : ℕ) → open_at o K ≡ None
    → running_at format d o K ≡ None
none_runs format d K o none = ap (runs_in format d o (state_of d o K)) none

-- ---- before the first entry

none_asked : (n b : ℕ) → calls_to (replicate n []) b ≡ []
none_asked zero b = refl
none_asked (suc n) zero = refl
none_asked (suc n) (suc b) = none_asked n b

tracked_first : (format : Format) (d : Domain) (o : ℕ)
    → IsTracked format d [] o (first_track (class_params_at d o) (length d.objects))
tracked_first format d o = record {
  params = refl;
  follows = refl;
  calls = λ b lt. ap (map (request_of_call o)) (none_asked (length d.objects) b);
  targets = length-replicate (length d.objects) [];
}

pub first_tracked : (format : Format) (d : Domain) (tracks : List TrackView) → length tracks ≡ length d.objects
    → ((o : ℕ) → o < length d.objects → track_at tracks o ≡ first_track (class_params_at d o) (length d.objects))
    → AreTracked format d [] tracks
first_tracked format d tracks long each =
    record { count = long; each = λ o lt. subst (IsTracked format d [] o) (sym (each o lt)) (tracked_first format d o) }

-- ---- an entry of another object

pub tracked_elsewhere : (format : Format) (d : Domain) (J : List Entry) (e : Entry) (x : ℕ) (t : TrackView)
    → x ≢ object_of e → IsTracked format d J x t → IsTracked format d (J ++ e ∷ []) x t
tracked_elsewhere format d J e x t apart h =
    let other : (x == object_of e) ≡ false = ne_eqb x (object_of e) apart in
    let params : (own : List Value) → ParamsAfter format d x J own → ParamsAfter format d x (J ++ e ∷ []) own =
    λ own q. (others_change_nothing format d J x e own other q).1 in
    record {
      params = params t.params h.params;
      follows = following_still format d J (J ++ e ∷ []) x t.follower (state_elsewhere d J e x apart)
          (open_elsewhere J e x apart) (shown_elsewhere d J e x apart) params h.follows;
      calls = λ b lt. h.calls b lt ∙ sym (posts_elsewhere J e x b apart);
      targets = h.targets;
    }

-- so the tracks are right where that of the entry's object is
pub tracked_set : (format : Format) (d : Domain) (J : List Entry) (e : Entry) (tracks : List TrackView)
    (t : TrackView) → object_of e < length d.objects → AreTracked format d J tracks
    → IsTracked format d (J ++ e ∷ []) (object_of e) t
    → AreTracked format d (J ++ e ∷ []) (slice_set tracks (object_of e) t)
tracked_set format d J e tracks t lt h is = record {
  count = length-set tracks (object_of e) t ∙ h.count;
  each = λ x below. ⊎_elim
      (λ (at : x ≡ object_of e). subst (λ y. IsTracked format d (J ++ e ∷ []) y
      (track_at (slice_set tracks (object_of e) t) y)) (sym at)
      (subst (IsTracked format d (J ++ e ∷ []) (object_of e))
      (sym (get_or-set_same tracks (object_of e) t no_track (subst (λ n. object_of e < n) (sym h.count) lt))) is))
      (λ apart. subst (IsTracked format d (J ++ e ∷ []) x)
      (sym (get_or-set_other tracks (object_of e) x t no_track apart))
      (tracked_elsewhere format d J e x (track_at tracks x) apart (h.each x below)))
      (cases_eq x (object_of e));
}

-- ---- entries of the object

-- an entry that posts nothing
quiet_calls : (J : List Entry) (e : Entry) (b : ℕ) (calls : List Call) → posted_to b e ≡ []
    → map (request_of_call (object_of e)) calls ≡ posts_between (object_of e) b J
    → map (request_of_call (object_of e)) calls ≡ posts_between (object_of e) b (J ++ e ∷ [])
quiet_calls J e b calls none h =
    h ∙ sym (posts_here J e b ∙ ap (λ xs. posts_between (object_of e) b J ++ xs) none
    ∙ append-nil (posts_between (object_of e) b J))

-- a start
starts_following : (format : Format) (d : Domain) (J : List Entry) (o : ℕ) (l : Letter) (own : List Value)
    → ParamsAfter format d o J own → IsFollowing format d (J ++ start_of o l ∷ []) o
    (begins_in format d o (state_of d o J) l own)
starts_following format d J o l own params = go (block_at d o (state_of d o J) l.action) refl
  where
    opened : open_at o (J ++ start_of o l ∷ []) ≡ Some l
    opened = open_here J (start_of o l)

    state : state_of d o (J ++ start_of o l ∷ []) ≡ state_of d o J
    state = state_here d J (start_of o l)

    go : (b : Option ℕ) → block_at d o (state_of d o J) l.action ≡ b
        → IsFollowing format d (J ++ start_of o l ∷ []) o
        (if is_some b then Some (followed format d o (state_of d o J) l own) else None)
    go None is =
        ap (λ s. runs_in format d o s (open_at o (J ++ start_of o l ∷ []))) state
        ∙ ap (runs_in format d o (state_of d o J)) opened
        ∙ ap (λ b. option_map (run_with l.args) (option_map (said_of_block format d) (option_map (tree_of_block d) b))) is
    go (Some b) is = record {
      format_is = refl;
      domain = refl;
      object = refl;
      state = sym state;
      params = params_more format d o J (start_of o l) own own params refl;
      opened = opened;
      declared = ap (λ b. is_some (option_map (tree_of_block d) b)) is;
      shown = sym (shown_here d J (start_of o l));
    }

pub tracked_start : (format : Format) (d : Domain) (J : List Entry) (o : ℕ) (l : Letter) (t : TrackView)
    → IsTracked format d J o t
    → IsTracked format d (J ++ start_of o l ∷ []) o
    (record t { follower = begins_in format d o (state_of d o J) l t.params })
tracked_start format d J o l t h = record {
  params = params_more format d o J (start_of o l) t.params t.params h.params refl;
  follows = starts_following format d J o l t.params h.params;
  calls = λ b lt. quiet_calls J (start_of o l) b (calls_to t.calls b) refl (h.calls b lt);
  targets = h.targets;
}

-- a post
posted_calls : (d : Domain) (J : List Entry) (o target a : ℕ) (v : Verdict) (args : List Value)
    (calls : List (List Call)) (b : ℕ) → target < length calls
    → map (request_of_call o) (calls_to calls b) ≡ posts_between o b J
    → map (request_of_call o) (calls_to (calls_with calls target v (record { action = a; args = args })) b)
    ≡ posts_between o b (J ++ Post o target v a args ∷ [])
posted_calls d J o target a Full args calls b lt h =
    quiet_calls J (Post o target Full a args) b (calls_to calls b) refl h
posted_calls d J o target a Dead args calls b lt h =
    quiet_calls J (Post o target Dead a args) b (calls_to calls b) refl h
posted_calls d J o target a (Accepted n) args calls b lt h =
    go (b == target) refl ∙ sym (posts_here J (Post o target (Accepted n) a args) b)
  where
    c : Call
    c = record { action = a; args = args }

    go : (t : Bool) → (b == target) ≡ t → map (request_of_call o)
        (calls_to (slice_set calls target (calls_to calls target ++ c ∷ [])) b) ≡ posts_between o b J
        ++ (if t then request_of_call o c ∷ [] else [])
    go true is =
        let same : b ≡ target = eqb-true b target is in
        ap (map (request_of_call o)) (ap (calls_to (slice_set calls target (calls_to calls target ++ c ∷ []))) same
        ∙ get_or-set_same calls target (calls_to calls target ++ c ∷ []) [] lt)
        ∙ map-append (request_of_call o) (calls_to calls target) (c ∷ [])
        ∙ ap (λ xs. xs ++ request_of_call o c ∷ []) (ap (λ y. map (request_of_call o) (calls_to calls y)) (sym same) ∙ h)
    go false is =
        ap (map (request_of_call o)) (get_or-set_other calls target b (calls_to calls target ++ c ∷ []) []
        (eqb-false b target is)) ∙ h ∙ sym (append-nil (posts_between o b J))

calls_long : (calls : List (List Call)) (target : ℕ) (v : Verdict) (c : Call)
    → length (calls_with calls target v c) ≡ length calls
calls_long calls target (Accepted n) c = length-set calls target (calls_to calls target ++ c ∷ [])
calls_long calls target Full c = refl
calls_long calls target Dead c = refl

pub tracked_post : (format : Format) (d : Domain) (J : List Entry) (o target a : ℕ) (v : Verdict)
    (args : List Value) (t : TrackView) (f : FollowerView) → target < length d.objects → IsTracked format d J o t
    → IsFollowed format d J o f
    → IsTracked format d (J ++ Post o target v a args ∷ []) o
    (record {
      params = t.params;
      follower = Some (with_item f (Sent (sets_after d J) target v a args));
      calls =
          calls_with t.calls target v (record { action = a; args = args });
    })
tracked_post format d J o target a v args t f lt h is =
    let e = Post o target v a args in
    record {
      params = params_more format d o J e t.params t.params h.params refl;
      follows = followed_on format d J (J ++ e ∷ []) o f (Sent (sets_after d J) target v a args) (state_here d J e)
          (open_here J e) (shown_here d J e) (params_more format d o J e f.own f.own is.params refl) is;
      calls = λ b below. posted_calls d J o target a v args t.calls b (subst (λ n. target < n) (sym h.targets) lt)
          (h.calls b below);
      targets = calls_long t.calls target v (record { action = a; args = args }) ∙ h.targets;
    }

-- an entry that shows one more item, posts nothing and changes nothing else
tracked_item : (format : Format) (d : Domain) (J : List Entry) (e : Entry) (item : Item) (t : TrackView)
    (f : FollowerView) → ((s : ℕ) → state_by (dead_of d (object_of e)) s e ≡ s)
    → ((l : Option Letter) → opened_by l e ≡ l)
    → ((xs : List Item) → shown_by (sets_after d J) xs e ≡ xs ++ item ∷ []) → ((b : ℕ) → posted_to b e ≡ [])
    → ((own : List Value) → ParamsNext format d (object_of e) J e own own)
    → IsTracked format d J (object_of e) t → IsFollowed format d J (object_of e) f
    → IsTracked format d (J ++ e ∷ []) (object_of e)
    (record { params = t.params; follower = Some (with_item f item); calls = t.calls })
tracked_item format d J e item t f state opened shown none own h is =
    let o = object_of e in
    record {
      params = params_more format d o J e t.params t.params h.params (own t.params);
      follows = followed_on format d J (J ++ e ∷ []) o f item (state_here d J e ∙ state (state_of d o J))
          (open_here J e ∙ opened (open_at o J)) (shown_here d J e ∙ shown (shown_of d o J))
          (params_more format d o J e f.own f.own is.params (own f.own)) is;
      calls = λ b lt. quiet_calls J e b (calls_to t.calls b) (none b) (h.calls b lt);
      targets = h.targets;
    }

-- what was seen
pub tracked_seen : (format : Format) (d : Domain) (J : List Entry) (o : ℕ) (rs : List Reading) (t : TrackView)
    (f : FollowerView) → IsTracked format d J o t → IsFollowed format d J o f
    → IsTracked format d (J ++ Seen o rs ∷ []) o (record {
      params = t.params;
      follower = Some (with_item f (Saw (record { sets = sets_after d J; readings = rs })));
      calls = t.calls;
    })
tracked_seen format d J o rs t f h is =
    tracked_item format d J (Seen o rs) (Saw (record { sets = sets_after d J; readings = rs })) t f (λ s. refl)
    (λ l. refl) (λ xs. refl) (λ b. refl) (λ own. refl) h is

-- a set without members
pub tracked_none : (format : Format) (d : Domain) (J : List Entry) (o set : ℕ) (t : TrackView) (f : FollowerView)
    → IsTracked format d J o t → IsFollowed format d J o f
    → IsTracked format d (J ++ NoMember o set ∷ []) o
    (record { params = t.params; follower = Some (with_item f (HadNone (sets_after d J) set)); calls = t.calls })
tracked_none format d J o set t f h is =
    tracked_item format d J (NoMember o set) (HadNone (sets_after d J) set) t f (λ s. refl) (λ l. refl)
    (λ xs. refl) (λ b. refl) (λ own. refl) h is

-- a change of a set
pub tracked_insert : (format : Format) (d : Domain) (J : List Entry) (o member set : ℕ) (t : TrackView)
    (f : FollowerView) → IsTracked format d J o t → IsFollowed format d J o f
    → IsTracked format d (J ++ Insert o member set ∷ []) o
    (record { params = t.params; follower = Some (with_item f (Turned true member set)); calls = t.calls })
tracked_insert format d J o member set t f h is =
    tracked_item format d J (Insert o member set) (Turned true member set) t f (λ s. refl) (λ l. refl) (λ xs. refl)
    (λ b. refl) (λ own. refl) h is

pub tracked_remove : (format : Format) (d : Domain) (J : List Entry) (o member set : ℕ) (t : TrackView)
    (f : FollowerView) → IsTracked format d J o t → IsFollowed format d J o f
    → IsTracked format d (J ++ Remove o member set ∷ []) o
    (record { params = t.params; follower = Some (with_item f (Turned false member set)); calls = t.calls })
tracked_remove format d J o member set t f h is =
    tracked_item format d J (Remove o member set) (Turned false member set) t f (λ s. refl) (λ l. refl)
    (λ xs. refl) (λ b. refl) (λ own. refl) h is

-- a wait
pub tracked_wait : (format : Format) (d : Domain) (J : List Entry) (o : ℕ) (t : TrackView)
    → IsTracked format d J o t → IsTracked format d (J ++ Wait o ∷ []) o t
tracked_wait format d J o t h =
    let e = Wait o in
    record {
      params = params_more format d o J e t.params t.params h.params refl;
      follows = following_still format d J (J ++ e ∷ []) o t.follower (state_here d J e) (open_here J e)
          (shown_here d J e) (λ own q. params_more format d o J e own own q refl) h.follows;
      calls = λ b lt. quiet_calls J e b (calls_to t.calls b) refl (h.calls b lt);
      targets = h.targets;
    }

pub all_wait : (format : Format) (d : Domain) (J : List Entry) (o : ℕ) (tracks : List TrackView)
    → AreTracked format d J tracks → AreTracked format d (J ++ Wait o ∷ []) tracks
all_wait format d J o tracks h = record {
  count = h.count;
  each = λ x below. ⊎_elim
      (λ (at : x ≡ o). subst (λ y. IsTracked format d (J ++ Wait y ∷ []) x (track_at tracks x)) at
      (tracked_wait format d J x (track_at tracks x) (h.each x below)))
      (λ apart. tracked_elsewhere format d J (Wait o) x (track_at tracks x) apart (h.each x below))
      (cases_eq x o);
}

-- an end that leaves these parameters
ended : (format : Format) (d : Domain) (J : List Entry) (o : ℕ) (r : ActionEnd) (t : TrackView) (own : List Value)
    → ParamsAfter format d o (J ++ End o r ∷ []) own → IsTracked format d J o t
    → IsTracked format d (J ++ End o r ∷ []) o (record { params = own; follower = None; calls = t.calls })
ended format d J o r t own params h =
    let e = End o r in
    record {
      params = params;
      follows = none_runs format d (J ++ e ∷ []) o (open_here J e);
      calls = λ b lt. quiet_calls J e b (calls_to t.calls b) refl (h.calls b lt);
      targets = h.targets;
    }

pub tracked_skip : (format : Format) (d : Domain) (J : List Entry) (o : ℕ) (t : TrackView)
    → IsTracked format d J o t → IsTracked format d (J ++ End o Skipped ∷ []) o (record t { follower = None })
tracked_skip format d J o t h =
    ended format d J o Skipped t t.params (params_more format d o J (End o Skipped) t.params t.params h.params refl) h

pub tracked_device : (format : Format) (d : Domain) (J : List Entry) (o s : ℕ) (t : TrackView)
    → associated_at d o ≡ true → IsTracked format d J o t
    → IsTracked format d (J ++ End o (State s) ∷ []) o (record t { follower = None })
tracked_device format d J o s t is h =
    ended format d J o (State s) t t.params (devices_give_states format d J o s t.params is h.params).1 h

pub tracked_end : (format : Format) (d : Domain) (J : List Entry) (o s : ℕ) (t : TrackView) (f : FollowerView)
    (own : List Value) → EndsLeave → associated_at d o ≡ false → IsTracked format d J o t
    → IsFollowed format d J o f → EndsIn f s own
    → IsTracked format d (J ++ End o (State s) ∷ []) o (record { params = own; follower = None; calls = t.calls })
tracked_end format d J o s t f own law logical h is ends =
    let leaves : LeavesParams format d o J f.own own = law format d J o f s own is ends in
    let next : MatchBool (is_logical_at d o o) (LeavesParams format d o J f.own own) (own ≡ f.own) =
    subst (λ b. MatchBool (b && not (associated_at d o)) (LeavesParams format d o J f.own own) (own ≡ f.own))
    (sym (eq-eqb o o refl))
    (subst (λ b. MatchBool (not b) (LeavesParams format d o J f.own own) (own ≡ f.own)) (sym logical) leaves) in
    ended format d J o (State s) t own (params_more format d o J (End o (State s)) f.own own is.params next) h

-- a kill
pub tracked_kill : (format : Format) (d : Domain) (J : List Entry) (o : ℕ) (c : Cause) (t : TrackView)
    → IsTracked format d J o t → IsTracked format d (J ++ Kill o c ∷ []) o (record t { follower = None })
tracked_kill format d J o c t h =
    let e = Kill o c in
    record {
      params = params_more format d o J e t.params t.params h.params refl;
      follows = none_runs format d (J ++ e ∷ []) o (open_here J e);
      calls = λ b lt. quiet_calls J e b (calls_to t.calls b) refl (h.calls b lt);
      targets = h.targets;
    }

-- ---- the same of what is equal to these

pub tracked_as : (format format2 : Format) (d d2 : Domain) (J K : List Entry) (tracks : List TrackView)
    → format2 ≡ format → d2 ≡ d → K ≡ J → AreTracked format d J tracks → AreTracked format2 d2 K tracks
tracked_as format format2 d d2 J K tracks same domain journal h =
    subst (λ x. AreTracked x d2 K tracks) (sym same)
    (subst (λ x. AreTracked format x K tracks) (sym domain)
    (subst (λ x. AreTracked format d x tracks) (sym journal) h))
