-- What a track says of its object.
use Rattle.std.specs.Prelude.{◌≡◌, ◌<◌, ℕ, Bool, true, false, List, [], ◌∷◌, ◌++◌, Option, Some, None, is_some, length, map, slice_set, replicate, if◌then◌else◌}
use Rattle.std.specs.List.{slice_index_or, filter_map}
use Rattle.sml_domain.specs.declared.value.Value.{Value}
use Rattle.sml_domain.specs.Domain.{Domain, Param}
use Rattle.sml_domain.specs.Lookups.{block_at}
use Rattle.sml_domain.specs.Program.{Subject}
use Rattle.sml_domain.specs.Truth.{Reading}
use Rattle.smi_journal_entries.specs.declared.entry.Sender.TheVariants.{Object}
use Rattle.smi_journal_entries.specs.declared.entry.Verdict.{Verdict}
use Rattle.smi_journal_entries.specs.declared.entry.Verdict.TheVariants.{Accepted, Full, Dead}
use Rattle.smi_journal_entries.specs.declared.entry.Entry.{Entry}
use Rattle.smi_journal_entries.specs.declared.journal.Format.{Format}
use Rattle.smi_journal_entries.specs.declared.letter.Letter.{Letter}
use Rattle.smi_journal_entries.specs.Requests.{Request}
use Rattle.smi_journal_entries.specs.Sets.{Sets, AreOf}
use Rattle.smi_journal_entries.specs.Words.{Item, Saw, posts_between}
use Rattle.smi_meaning.specs.Params.{first_value, running_at, ParamsAfter}
use Rattle.smi_audit_follower.specs.Expecting.{FollowerReadsNext as ReadsNamed}
use Rattle.smi_audit_follower.specs.Following.{FollowerView, MayShow, MayTell, EndsIn, FollowerMayEnd, with_item, followed}
use Rattle.smi_audit_follower.specs.Laws.{IsFollowed}
use Rattle.smi_audit.specs.declared.calls.Call.{Call}
use Rattle.smi_audit.specs.Views.{TrackView}

-- what was asked of an object
abbrev pub calls_to : List (List Call) → ℕ → List Call
calls_to calls b = slice_index_or calls b []

-- the request of an object's call
abbrev pub request_of_call : ℕ → Call → Request
request_of_call o c = record { sender = Object o; action = c.action; args = c.args }

-- what is followed of an object is what runs there, if anything does
abbrev pub IsFollowing : Format → Domain → List Entry → ℕ → Option FollowerView → Type 0
IsFollowing format d J o None = running_at format d o J ≡ None
IsFollowing format d J o (Some f) = IsFollowed format d J o f

-- a track says of an object what the journal says
pub record IsTracked (format : Format) (d : Domain) (J : List Entry) (o : ℕ) (t : TrackView) : Type 0 where
  pub params : ParamsAfter format d o J t.params
  pub follows : IsFollowing format d J o t.follower
  pub calls : (b : ℕ) → b < length d.objects → map (request_of_call o) (calls_to t.calls b) ≡ posts_between o b J
  pub targets : length t.calls ≡ length d.objects

-- the track of an object with these parameters, one of `objects` objects, before its first entry
abbrev pub first_track : List Param → ℕ → TrackView
first_track params objects = record {
  params = filter_map first_value params;
  follower = None;
  calls = replicate objects [];
}

-- a track of which nothing is known
abbrev pub no_track : TrackView
no_track = record { params = []; follower = None; calls = [] }

-- the track of an object
abbrev pub track_at : List TrackView → ℕ → TrackView
track_at tracks o = slice_index_or tracks o no_track

-- each object has a track, which says what the journal says
pub record AreTracked (format : Format) (d : Domain) (J : List Entry) (tracks : List TrackView) : Type 0 where
  pub count : length tracks ≡ length d.objects
  pub each : (o : ℕ) → o < length d.objects → IsTracked format d J o (track_at tracks o)

-- the object of a reading is one of those below this number
abbrev pub IsReadingOf : ℕ → Reading → Type 0
IsReadingOf n r = r.object < n

-- ---- what becomes of a track

-- the follower of an action, where the state declares it
abbrev pub begins_in : Format → Domain → ℕ → ℕ → Letter → List Value → Option FollowerView
begins_in format d o s l own = if is_some (block_at d o s l.action) then Some (followed format d o s l own) else None

-- what is followed may be told that sets have these members
abbrev pub MayBeTold : Sets → Option FollowerView → Type 0
MayBeTold sets None = Unit {0}
MayBeTold sets (Some f) = AreOf f.domain sets × MayTell f.format f.domain sets

-- what was asked, after one more post
abbrev pub calls_with : List (List Call) → ℕ → Verdict → Call → List (List Call)
calls_with calls b (Accepted n) c = slice_set calls b (calls_to calls b ++ c ∷ [])
calls_with calls b Full c = calls
calls_with calls b Dead c = calls

-- what is followed cannot show this next
abbrev pub CannotShow : Option FollowerView → Item → Type 0
CannotShow None item = Unit {0}
CannotShow (Some f) item = ¬ MayShow f item

-- what is followed continues with this
pub record TrackGoesOn (was now : TrackView) (item : Item) (calls : List (List Call)) : Type 0 where
  pub follower : FollowerView
  pub is : was.follower ≡ Some follower
  pub may : MayShow follower item
  pub goes : now ≡ record { params = was.params; follower = Some (with_item follower item); calls = calls }

-- whether it does
abbrev pub Shows : TrackView → TrackView → Item → List (List Call) → Bool → Type 0
Shows was now item calls true = TrackGoesOn was now item calls
Shows was now item calls false = CannotShow was.follower item

-- what is followed reads next the objects that these names stand for by then
abbrev pub TrackReadsNext : Option FollowerView → List Subject → Type 0
TrackReadsNext None names = ⊥
TrackReadsNext (Some f) names = ReadsNamed f names

-- what is followed reads nothing next
abbrev pub CannotRead : Option FollowerView → Type 0
CannotRead None = Unit {0}
CannotRead (Some f) = (sets : Sets) (readings : List Reading) → MayTell f.format f.domain sets
    → ¬ MayShow f (Saw (record { sets = sets; readings = readings }))

-- what is followed cannot end now
abbrev pub CannotEnd : Option FollowerView → Type 0
CannotEnd None = Unit {0}
CannotEnd (Some f) = (s : ℕ) → ¬ FollowerMayEnd f s

-- what is followed ends in a state, and leaves the parameters
pub record EndsNow (was now : TrackView) (s : ℕ) : Type 0 where
  pub follower : FollowerView
  pub is : was.follower ≡ Some follower
  pub ends : EndsIn follower s now.params
  pub goes : now ≡ record { params = now.params; follower = None; calls = was.calls }

-- whether it does
abbrev pub TrackEnds : TrackView → TrackView → Option ℕ → Type 0
TrackEnds was now (Some s) = EndsNow was now s
TrackEnds was now None = CannotEnd was.follower
