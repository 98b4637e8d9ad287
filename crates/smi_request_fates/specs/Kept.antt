-- What is kept of a journal.
use Rattle.std.specs.Prelude.{◌≡◌, ◌<◌, ◌+◌, ◌++◌, ◌==◌, ℕ, Bool, true, false, if◌then◌else◌, List, Option, None, Some, All, slice_get}
use Rattle.sml_domain.specs.Domain.{Domain}
use Rattle.smi_journal_entries.specs.declared.entry.ActionEnd.TheVariants.{State, Skipped}
use Rattle.smi_journal_entries.specs.declared.entry.Entry.{Entry}
use Rattle.smi_journal_entries.specs.declared.entry.Entry.TheVariants.{Start, Post, Wait, Seen, End, Kill, Insert, Remove, NoMember}
use Rattle.smi_journal_entries.specs.Journals.{most_entries}
use Rattle.smi_journal_entries.specs.Words.{object_of, state_of, dead_of}
use Rattle.smi_request_fates.specs.declared.counts.Counts.{Counts}
use Rattle.smi_request_fates.specs.declared.fate.Stands.{Stands}
use Rattle.smi_request_fates.specs.declared.fate.Came.{Came}
use Rattle.smi_request_fates.specs.declared.fate.Came.TheVariants as came
use Rattle.smi_journal_entries.specs.declared.entry.Sender.{Sender}
use Rattle.smi_request_fates.specs.Fates.{started_at, ends_at, fate_by, fate_of, stands_of}

-- a sender's request of a number at an object, and what became of it
pub record WatchedView : Type 0 where
  pub object : ℕ
  pub sender : Sender
  pub number : ℕ
  pub came : Came

-- how a request was answered: it was accepted; it was refused, and its object stood so; or it is one that a log before
-- had, after which its object stood so
pub data Answered : Type 0 where
  WasAccepted : Answered
  WasRefused : (stood : Option Stands) → Answered
  IsPast : (stood : Option Stands) → Answered

-- a sender's request of a number at an object, and how it was answered
pub record Asked : Type 0 where
  pub object : ℕ
  pub sender : Sender
  pub number : ℕ
  pub answered : Answered

-- how a request was answered of which that became
abbrev pub answered_by : Came → Answered
answered_by (came.Accepted fate) = WasAccepted
answered_by (came.Refused stood) = WasRefused stood
answered_by (came.Past stood) = IsPast stood

-- the request that is watched
abbrev pub watched_request : WatchedView → Asked
watched_request w = record { object = w.object; sender = w.sender; number = w.number; answered = answered_by w.came }

-- counts of each object, the requests that are watched, and for how many more room is kept
pub record FatesView : Type 0 where
  pub counts : List Counts
  pub watched : List WatchedView
  pub room : ℕ

-- one more start and one more end can be counted
abbrev pub HasRoom : Counts → Type 0
HasRoom c = (c.started < most_entries) × (c.ended < most_entries)

-- so of an object
abbrev pub RoomAt : List Counts → ℕ → Type 0
RoomAt counts o = (c : Counts) → slice_get counts o ≡ Some c → HasRoom c

-- an entry is of an object that is counted, of this many
abbrev pub IsOfCounted : ℕ → Entry → Type 0
IsOfCounted count e = object_of e < count

-- what is kept of an object, after an entry of it
abbrev pub counts_by : Counts → Entry → Counts
counts_by c (Start x s n a args) = record c { started = c.started + 1 }
counts_by c (Post x t v a args) = c
counts_by c (Wait x) = c
counts_by c (Seen x rs) = c
counts_by c (End x (State s)) = record c { state = s; ended = c.ended + 1 }
counts_by c (End x Skipped) = c
counts_by c (Kill x k) = record c { state = c.dead; ended = c.ended + 1 }
counts_by c (Insert x o set) = c
counts_by c (Remove x o set) = c
counts_by c (NoMember x set) = c

-- what became of a sender's request of a number, after an entry of its object, which then stands so
abbrev pub came_by : Sender → ℕ → Stands → Came → Entry → Came
came_by s n at (came.Accepted fate) e = came.Accepted (fate_by s n at fate e)
came_by s n at (came.Refused stood) e = came.Refused stood
came_by s n at (came.Past stood) e = came.Past stood

-- a request that is watched, after an entry of an object, which then stands so
abbrev pub watched_next : ℕ → Stands → Entry → WatchedView → WatchedView
watched_next o at e w = if w.object == o then record w { came = came_by w.sender w.number at w.came e } else w

-- what is kept of an object is what the journal says
pub record CountsTell (d : Domain) (J : List Entry) (o : ℕ) (c : Counts) : Type 0 where
  pub state : c.state ≡ state_of d o J
  pub dead : c.dead ≡ dead_of d o
  pub started : c.started ≡ started_at o J
  pub ended : c.ended ≡ ends_at o J

-- an object stood so, at some time of the journal
pub record StoodSo (d : Domain) (J : List Entry) (o : ℕ) (at : Stands) : Type 0 where
  pub front : List Entry
  pub back : List Entry
  pub journal : J ≡ front ++ back
  pub stands : at ≡ stands_of d o front

-- the fate of an accepted request is that of the journal; where one was refused, its object stood so; of one that a log
-- before had the journal says nothing
abbrev pub CameSo : Domain → List Entry → ℕ → Sender → ℕ → Came → Type 0
CameSo d J o s n (came.Accepted fate) = fate ≡ fate_of d o s n J
CameSo d J o s n (came.Refused None) = Unit {0}
CameSo d J o s n (came.Refused (Some at)) = StoodSo d J o at
CameSo d J o s n (came.Past stood) = Unit {0}

-- so it is of a request that is watched
abbrev pub IsCame : Domain → List Entry → WatchedView → Type 0
IsCame d J w = CameSo d J w.object w.sender w.number w.came

-- all that is kept is what the journal says
pub record FatesTell (d : Domain) (J : List Entry) (f : FatesView) : Type 0 where
  pub counts : (o : ℕ) (c : Counts) → slice_get f.counts o ≡ Some c → CountsTell d J o c
  pub came : All (IsCame d J) f.watched
