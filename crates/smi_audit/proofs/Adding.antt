-- What a judge keeps, with an entry added.
use Rattle.std.proofs.Common.{◌≡◌, ◌<◌, ℕ, Bool, true, false, List, [], ◌∷◌, ◌++◌, length, Option, Some, None, refl, sym, ap, ◌∙◌, subst}
use Rattle.std.specs.Prelude.{All, is_some, slice_set}
use Rattle.std.proofs.lemmas.List.Elements.{All-append, All-cons, All-nil}
use Rattle.std.specs.Arc.{arc_value}
use Rattle.sml_domain.specs.declared.value.Value.{Value}
use Rattle.sml_domain.specs.Domain.{Domain}
use Rattle.sml_domain.specs.Lookups.{associated_at}
use Rattle.sml_domain.specs.Truth.{Reading}
use Rattle.smi_journal_entries.specs.declared.letter.Letter.{Letter}
use Rattle.smi_journal_entries.specs.declared.entry.Verdict.{Verdict}
use Rattle.smi_journal_entries.specs.declared.entry.ActionEnd.TheVariants.{State, Skipped}
use Rattle.smi_journal_entries.specs.declared.entry.Cause.{Cause}
use Rattle.smi_journal_entries.specs.declared.entry.Entry.{Entry}
use Rattle.smi_journal_entries.specs.declared.entry.Entry.TheVariants.{Start, Post, Wait, Seen, End, Kill, Insert, Remove, NoMember}
use Rattle.smi_journal_entries.specs.declared.journal.Format.{Format}
use Rattle.smi_journal_entries.specs.declared.journal.Format.TheVariants.{One, Two}
use Rattle.smi_journal_entries.specs.Sets.{Sets, AreOf, sets_after, unchanged}
use Rattle.smi_journal_entries.specs.Words.{Item, Sent, HadNone, Saw, Turned, object_of, start_of, state_of}
use Rattle.smi_journal_entries.specs.Laws.{BeginDeclared}
use Rattle.smi_journal_entries.proofs.OneMore.{sets_more}
use Rattle.smi_meaning.specs.Legal.{MayFollow}
use Rattle.smi_meaning.specs.Quiet.{AreDeclared}
use Rattle.smi_audit_follower.specs.Following.{FollowerView, MayTell, with_item}
use Rattle.smi_audit_follower.specs.Laws.{IsFollowed, EndsLeave}
use Rattle.smi_audit.specs.declared.judge.Judge.{Judge}
use Rattle.smi_audit.specs.Views.{TrackView}
use Rattle.smi_audit.specs.Tracks.{IsFollowing, IsTracked, AreTracked, track_at, begins_in, calls_with, Shows, EndsNow}
use Rattle.smi_audit.specs.Judges.{JudgeAdds, IsEntryOf, JudgeIsKept}
use Rattle.smi_audit.proofs.Tracked.{tracked_set, tracked_start, tracked_post, tracked_seen, tracked_none, tracked_insert, tracked_remove, tracked_skip, tracked_device, tracked_end, tracked_kill, tracked_as}
use Rattle.smi_audit.proofs.Followed.{shows_true}

-- the track of an object of the domain
pub track_of : (j : Judge) (o : ℕ) → o < length j.books.domain.objects → JudgeIsKept j
    → IsTracked j.format j.books.domain j.books.journal o (track_at j.tracks.items o)
track_of j o lt h = h.tracked.each o lt

-- so far sets have members of which the format may tell, also after an entry that may follow
tells_more : (format : Format) (d : Domain) (J : List Entry) (e : Entry) → MayFollow format d J e
    → MayTell format d (sets_after d J) → MayTell format d (sets_after d (J ++ e ∷ []))
tells_more Two d J e h t = tt
tells_more One d J (Start x s n a args) h t = subst (AreDeclared d) (sym (sets_more d J (Start x s n a args))) t
tells_more One d J (Post x b v a args) h t = subst (AreDeclared d) (sym (sets_more d J (Post x b v a args))) t
tells_more One d J (Wait x) h t = subst (AreDeclared d) (sym (sets_more d J (Wait x))) t
tells_more One d J (Seen x rs) h t = subst (AreDeclared d) (sym (sets_more d J (Seen x rs))) t
tells_more One d J (End x r) h t = subst (AreDeclared d) (sym (sets_more d J (End x r))) t
tells_more One d J (Kill x c) h t = subst (AreDeclared d) (sym (sets_more d J (Kill x c))) t
tells_more One d J (Insert x m set) h t = absurd h
tells_more One d J (Remove x m set) h t = absurd h
tells_more One d J (NoMember x set) h t = absurd h

-- what is kept, of what is equal
kept_as : (old new : Judge) (J : List Entry) → arc_value new.domain ≡ arc_value old.domain
    → new.declared ≡ old.declared → new.format ≡ old.format → new.books.domain ≡ old.books.domain
    → new.books.journal ≡ J → JudgeIsKept old
    → AreTracked old.format old.books.domain J new.tracks.items
    → All (IsEntryOf (length old.books.domain.objects)) J
    → MayTell old.format old.books.domain (sets_after old.books.domain J) → JudgeIsKept new
kept_as old new J arc declared format domain journal h tracks there tells = record {
  domain = domain ∙ h.domain ∙ sym arc;
  tracked = tracked_as old.format new.format old.books.domain new.books.domain J new.books.journal
      new.tracks.items format domain journal tracks;
  there = subst (λ x. All (IsEntryOf (length x.objects)) new.books.journal) (sym domain)
      (subst (All (IsEntryOf (length old.books.domain.objects))) (sym journal) there);
  tells = subst (λ x. MayTell x new.books.domain (sets_after new.books.domain new.books.journal)) (sym format)
      (subst (λ x. MayTell old.format x (sets_after x new.books.journal)) (sym domain)
      (subst (λ l. MayTell old.format old.books.domain (sets_after old.books.domain l)) (sym journal) tells));
  declared = declared ∙ h.declared ∙ ap unchanged (sym domain);
  are = subst (λ x. AreOf x (unchanged x)) (sym domain) h.are;
}

-- a judge whose books and tracks have the entry
pub adds : (old new : Judge) (e : Entry) → arc_value new.domain ≡ arc_value old.domain
    → new.declared ≡ old.declared → new.format ≡ old.format → JudgeIsKept old
    → object_of e < length old.books.domain.objects
    → MayFollow old.format old.books.domain old.books.journal e → new.books.domain ≡ old.books.domain
    → new.books.journal ≡ old.books.journal ++ e ∷ []
    → AreTracked old.format old.books.domain (old.books.journal ++ e ∷ []) new.tracks.items → JudgeAdds old new e
adds old new e arc declared format h lt legal domain journal tracks =
    let n = length old.books.domain.objects in
    let there : All (IsEntryOf n) (old.books.journal ++ e ∷ []) =
    All-append (IsEntryOf n) old.books.journal (e ∷ []) h.there
    (All-cons (IsEntryOf n) e [] lt (All-nil (IsEntryOf n))) in
    let tells = tells_more old.format old.books.domain old.books.journal e legal h.tells in
    record {
      follows = legal;
      added = record {
        kept = kept_as old new (old.books.journal ++ e ∷ []) arc declared format domain journal h tracks there tells;
        journal = journal;
        domain = domain;
        format = format;
      };
    }

first_tells : BeginDeclared → (format : Format) (d : Domain) → MayTell format d (unchanged d)
first_tells law One d = law d
first_tells law Two d = tt

-- a judge of nothing
pub first_kept : BeginDeclared → (j : Judge) (d : Domain) (sets : Sets)
    → ((format : Format) → AreTracked format d [] j.tracks.items) → j.books.domain ≡ d → arc_value j.domain ≡ d
    → j.books.journal ≡ [] → j.declared ≡ sets
    → sets ≡ sets_after j.books.domain j.books.journal → AreOf j.books.domain sets → JudgeIsKept j
first_kept law j d sets tracks domain arc journal declared is are =
    let begin : sets ≡ unchanged j.books.domain = is ∙ ap (sets_after j.books.domain) journal in
    record {
      domain = domain ∙ sym arc;
      tracked = tracked_as j.format j.format d j.books.domain [] j.books.journal j.tracks.items refl domain
          journal (tracks j.format);
      there = subst (All (IsEntryOf (length j.books.domain.objects))) (sym journal)
          (All-nil (IsEntryOf (length j.books.domain.objects)));
      tells = subst (λ l. MayTell j.format j.books.domain (sets_after j.books.domain l)) (sym journal)
          (first_tells law j.format j.books.domain);
      declared = declared ∙ begin;
      are = subst (AreOf j.books.domain) begin are;
    }

-- who is not killed has no place of a kill
pub never_killed : (place : Option ℕ) → is_some place ≡ false → place ≡ None
never_killed None e = refl
never_killed (Some k) e = absurd (cc e)

-- the tracks with that of an object written
written : (format : Format) (d : Domain) (J : List Entry) (e : Entry) (tracks tracks2 : List TrackView) (o : ℕ)
    (t : TrackView) → o < length d.objects → object_of e ≡ o → AreTracked format d J tracks
    → tracks2 ≡ slice_set tracks o t → IsTracked format d (J ++ e ∷ []) o t
    → AreTracked format d (J ++ e ∷ []) tracks2
written format d J e tracks tracks2 o t lt of h is put =
    subst (AreTracked format d (J ++ e ∷ [])) (sym is)
    (subst (λ y. AreTracked format d (J ++ e ∷ []) (slice_set tracks y t)) of
    (tracked_set format d J e tracks t (subst (λ y. y < length d.objects) (sym of) lt) h
    (subst (λ y. IsTracked format d (J ++ e ∷ []) y t) (sym of) put)))

pub start_added : (format : Format) (d d2 : Domain) (J : List Entry) (tracks tracks2 : List TrackView) (o s : ℕ)
    (l : Letter) → o < length d.objects → d2 ≡ d → s ≡ state_of d o J → AreTracked format d J tracks
    → tracks2 ≡ slice_set tracks o (record (track_at tracks o)
    { follower = begins_in format d2 o s l (track_at tracks o).params })
    → AreTracked format d (J ++ start_of o l ∷ []) tracks2
start_added format d d2 J tracks tracks2 o s l lt domain state h is =
    let t = track_at tracks o in
    let same : tracks2 ≡ slice_set tracks o (record t { follower = begins_in format d o (state_of d o J) l t.params }) =
    is ∙ ap (λ f. slice_set tracks o (record t { follower = f }))
    (ap (λ x. begins_in format x o s l t.params) domain ∙ ap (λ x. begins_in format d o x l t.params) state) in
    written format d J (start_of o l) tracks tracks2 o
    (record t { follower = begins_in format d o (state_of d o J) l t.params }) lt refl h same
    (tracked_start format d J o l t (h.each o lt))

-- the same of an equal letter
pub start_added_as : (format : Format) (d d2 : Domain) (J : List Entry) (tracks tracks2 : List TrackView) (o s : ℕ)
    (l l2 : Letter) → l ≡ l2 → o < length d.objects → d2 ≡ d → s ≡ state_of d o J → AreTracked format d J tracks
    → tracks2 ≡ slice_set tracks o (record (track_at tracks o)
    { follower = begins_in format d2 o s l (track_at tracks o).params })
    → AreTracked format d (J ++ start_of o l2 ∷ []) tracks2
start_added_as format d d2 J tracks tracks2 o s l l2 same lt domain state h is =
    subst (λ x. AreTracked format d (J ++ start_of o x ∷ []) tracks2) same
    (start_added format d d2 J tracks tracks2 o s l lt domain state h is)

follows : (format : Format) (d : Domain) (J : List Entry) (o : ℕ) (was : Option FollowerView) (f : FollowerView)
    → was ≡ Some f → IsFollowing format d J o was → IsFollowed format d J o f
follows format d J o was f is h = subst (IsFollowing format d J o) is h

pub post_added : (format : Format) (d : Domain) (J : List Entry) (tracks tracks2 : List TrackView) (o target a : ℕ)
    (v : Verdict) (args : List Value) (sets : Sets) (b : Bool) → o < length d.objects → target < length d.objects
    → AreTracked format d J tracks
    → tracks2 ≡ slice_set tracks o (track_at tracks2 o) → sets ≡ sets_after d J → b ≡ true
    → Shows (track_at tracks o) (track_at tracks2 o) (Sent sets target v a args)
    (calls_with (track_at tracks o).calls target v (record { action = a; args = args })) b
    → AreTracked format d (J ++ Post o target v a args ∷ []) tracks2
post_added format d J tracks tracks2 o target a v args sets b lt below h is same e s =
    let t = track_at tracks o in
    let calls = calls_with t.calls target v (record { action = a; args = args }) in
    let g = shows_true t (track_at tracks2 o) (Sent (sets_after d J) target v a args) calls b e
    (subst (λ x. Shows t (track_at tracks2 o) (Sent x target v a args) calls b) same s) in
    let own = h.each o lt in
    written format d J (Post o target v a args) tracks tracks2 o (track_at tracks2 o) lt refl h is
    (subst (IsTracked format d (J ++ Post o target v a args ∷ []) o) (sym g.goes)
    (tracked_post format d J o target a v args t g.follower below own
    (follows format d J o t.follower g.follower g.is own.follows)))

-- an entry that shows this item, and posts nothing
item_added : (format : Format) (d : Domain) (J : List Entry) (e : Entry) (item : Item)
    (tracks tracks2 : List TrackView) (o : ℕ) (b : Bool)
    → ((t : TrackView) (f : FollowerView) → IsTracked format d J o t → IsFollowed format d J o f
    → IsTracked format d (J ++ e ∷ []) o (record
    { params = t.params; follower = Some (with_item f item); calls = t.calls }))
    → object_of e ≡ o → o < length d.objects → AreTracked format d J tracks
    → tracks2 ≡ slice_set tracks o (track_at tracks2 o) → b ≡ true
    → Shows (track_at tracks o) (track_at tracks2 o) item (track_at tracks o).calls b
    → AreTracked format d (J ++ e ∷ []) tracks2
item_added format d J e item tracks tracks2 o b more of lt h is so s =
    let t = track_at tracks o in
    let g = shows_true t (track_at tracks2 o) item t.calls b so s in
    let own = h.each o lt in
    written format d J e tracks tracks2 o (track_at tracks2 o) lt of h is
    (subst (IsTracked format d (J ++ e ∷ []) o) (sym g.goes)
    (more t g.follower own (follows format d J o t.follower g.follower g.is own.follows)))

-- what was read, by members and readings that are equal to these
pub seen_added : (format : Format) (d : Domain) (J : List Entry) (tracks tracks2 : List TrackView) (o : ℕ)
    (rs rs2 : List Reading) (sets : Sets) (b : Bool) → rs ≡ rs2 → o < length d.objects → AreTracked format d J tracks
    → tracks2 ≡ slice_set tracks o (track_at tracks2 o) → sets ≡ sets_after d J → b ≡ true
    → Shows (track_at tracks o) (track_at tracks2 o) (Saw (record { sets = sets; readings = rs }))
    (track_at tracks o).calls b
    → AreTracked format d (J ++ Seen o rs2 ∷ []) tracks2
seen_added format d J tracks tracks2 o rs rs2 sets b equal lt h is same so s =
    let t = track_at tracks o in
    let shows : Shows t (track_at tracks2 o) (Saw (record { sets = sets_after d J; readings = rs })) t.calls b =
    subst (λ x. Shows t (track_at tracks2 o) (Saw (record { sets = x; readings = rs })) t.calls b) same s in
    subst (λ l. AreTracked format d (J ++ Seen o l ∷ []) tracks2) equal
    (item_added format d J (Seen o rs) (Saw (record { sets = sets_after d J; readings = rs })) tracks tracks2 o b
    (tracked_seen format d J o rs) refl lt h is so shows)

pub none_added : (format : Format) (d : Domain) (J : List Entry) (tracks tracks2 : List TrackView) (o set : ℕ)
    (sets : Sets) (b : Bool) → o < length d.objects → AreTracked format d J tracks
    → tracks2 ≡ slice_set tracks o (track_at tracks2 o) → sets ≡ sets_after d J → b ≡ true
    → Shows (track_at tracks o) (track_at tracks2 o) (HadNone sets set) (track_at tracks o).calls b
    → AreTracked format d (J ++ NoMember o set ∷ []) tracks2
none_added format d J tracks tracks2 o set sets b lt h is same so s =
    let t = track_at tracks o in
    let shows : Shows t (track_at tracks2 o) (HadNone (sets_after d J) set) t.calls b =
    subst (λ x. Shows t (track_at tracks2 o) (HadNone x set) t.calls b) same s in
    item_added format d J (NoMember o set) (HadNone (sets_after d J) set) tracks tracks2 o b
    (tracked_none format d J o set) refl lt h is so shows

pub insert_added : (format : Format) (d : Domain) (J : List Entry) (tracks tracks2 : List TrackView) (o m set : ℕ)
    (b : Bool) → o < length d.objects → AreTracked format d J tracks
    → tracks2 ≡ slice_set tracks o (track_at tracks2 o) → b ≡ true
    → Shows (track_at tracks o) (track_at tracks2 o) (Turned true m set) (track_at tracks o).calls b
    → AreTracked format d (J ++ Insert o m set ∷ []) tracks2
insert_added format d J tracks tracks2 o m set b lt h is so s =
    item_added format d J (Insert o m set) (Turned true m set) tracks tracks2 o b
    (tracked_insert format d J o m set) refl lt h is so s

pub remove_added : (format : Format) (d : Domain) (J : List Entry) (tracks tracks2 : List TrackView) (o m set : ℕ)
    (b : Bool) → o < length d.objects → AreTracked format d J tracks
    → tracks2 ≡ slice_set tracks o (track_at tracks2 o) → b ≡ true
    → Shows (track_at tracks o) (track_at tracks2 o) (Turned false m set) (track_at tracks o).calls b
    → AreTracked format d (J ++ Remove o m set ∷ []) tracks2
remove_added format d J tracks tracks2 o m set b lt h is so s =
    item_added format d J (Remove o m set) (Turned false m set) tracks tracks2 o b
    (tracked_remove format d J o m set) refl lt h is so s

pub skip_added : (format : Format) (d : Domain) (J : List Entry) (tracks tracks2 : List TrackView) (o : ℕ)
    → o < length d.objects → AreTracked format d J tracks
    → tracks2 ≡ slice_set tracks o (record (track_at tracks o) { follower = None })
    → AreTracked format d (J ++ End o Skipped ∷ []) tracks2
skip_added format d J tracks tracks2 o lt h is =
    written format d J (End o Skipped) tracks tracks2 o (record (track_at tracks o) { follower = None }) lt refl h
    is (tracked_skip format d J o (track_at tracks o) (h.each o lt))

pub device_added : (format : Format) (d : Domain) (J : List Entry) (tracks tracks2 : List TrackView) (o s : ℕ)
    → o < length d.objects → associated_at d o ≡ true → AreTracked format d J tracks
    → tracks2 ≡ slice_set tracks o (record (track_at tracks o) { follower = None })
    → AreTracked format d (J ++ End o (State s) ∷ []) tracks2
device_added format d J tracks tracks2 o s lt device h is =
    written format d J (End o (State s)) tracks tracks2 o (record (track_at tracks o) { follower = None }) lt refl
    h is (tracked_device format d J o s (track_at tracks o) device (h.each o lt))

pub end_added : EndsLeave → (format : Format) (d : Domain) (J : List Entry) (tracks tracks2 : List TrackView)
    (o s z : ℕ) → o < length d.objects → associated_at d o ≡ false → AreTracked format d J tracks
    → tracks2 ≡ slice_set tracks o (track_at tracks2 o)
    → EndsNow (track_at tracks o) (track_at tracks2 o) z → z ≡ s
    → AreTracked format d (J ++ End o (State s) ∷ []) tracks2
end_added law format d J tracks tracks2 o s z lt logical h is g same =
    let t = track_at tracks o in
    let own = h.each o lt in
    let put : IsTracked format d (J ++ End o (State z) ∷ []) o (track_at tracks2 o) =
    subst (IsTracked format d (J ++ End o (State z) ∷ []) o) (sym g.goes)
    (tracked_end format d J o z t g.follower (track_at tracks2 o).params law logical own
    (follows format d J o t.follower g.follower g.is own.follows) g.ends) in
    subst (λ y. AreTracked format d (J ++ End o (State y) ∷ []) tracks2) same
    (written format d J (End o (State z)) tracks tracks2 o (track_at tracks2 o) lt refl h is put)

pub kill_added : (format : Format) (d : Domain) (J : List Entry) (tracks tracks2 : List TrackView) (o : ℕ)
    (c : Cause) → o < length d.objects → AreTracked format d J tracks
    → tracks2 ≡ slice_set tracks o (record (track_at tracks o) { follower = None })
    → AreTracked format d (J ++ Kill o c ∷ []) tracks2
kill_added format d J tracks tracks2 o c lt h is =
    written format d J (Kill o c) tracks tracks2 o (record (track_at tracks o) { follower = None }) lt refl h is
    (tracked_kill format d J o c (track_at tracks o) (h.each o lt))
