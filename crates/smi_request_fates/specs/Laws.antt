-- The laws of fates and counts.
use Rattle.std.specs.Prelude.{◌≡◌, ◌≤◌, ◌+◌, ℕ, Bool, true, false, if◌then◌else◌, List, [], ◌∷◌, ◌++◌, Option, Some, ◌<◌, length, slice_set}
use Rattle.sml_domain.specs.declared.value.Value.{Value}
use Rattle.sml_domain.specs.Domain.{Domain}
use Rattle.smi_journal_entries.specs.declared.journal.Format.{Format}
use Rattle.smi_journal_entries.specs.declared.entry.Sender.{Sender}
use Rattle.smi_journal_entries.specs.declared.entry.Entry.{Entry}
use Rattle.smi_journal_entries.specs.declared.entry.Entry.TheVariants.{Start}
use Rattle.smi_journal_entries.specs.Words.{is_killed, object_of, open_at}
use Rattle.smi_journal_entries.specs.Requests.{same_sender}
use Rattle.smi_journal_entries.specs.declared.letter.Letter.{Letter}
use Rattle.smi_meaning.specs.Legal.{IsLegal}
use Rattle.smi_journal_entries.specs.Journals.{most_entries}
use Rattle.smi_request_fates.specs.Kept.{FatesView, WatchedView, IsCame, FatesTell, RoomAt}
use Rattle.smi_request_fates.specs.declared.fate.Fate.TheVariants.{Waits, Open}
use Rattle.smi_request_fates.specs.Fates.{ends, ends_at, started_at, started_of_sender, stands_of, fate_next, fate_of, is_last, stood}

-- one for a yes
abbrev pub one_if : Bool → ℕ
one_if b = if b then 1 else 0

-- one more entry
pub record OneMoreFate (d : Domain) (J : List Entry) (e : Entry) : Type 0 where
  pub fate : (o : ℕ) (s : Sender) (n : ℕ) → fate_of d o s n (J ++ e ∷ []) ≡ fate_next d o s n J (fate_of d o s n J) e
  pub ended : (o : ℕ) → ends_at o (J ++ e ∷ []) ≡ ends_at o J + one_if (ends o e)

abbrev pub FatesMore : Type 0
FatesMore = (d : Domain) (J : List Entry) (e : Entry) → OneMoreFate d J e

-- a last fate stays, whatever entries follow in a legal journal
abbrev pub FatesStay : Type 0
FatesStay = (format : Format) (d : Domain) (front back : List Entry) (o : ℕ) (s : Sender) (n : ℕ) →
    IsLegal format d (front ++ back) → is_last (fate_of d o s n front) ≡ true
    → fate_of d o s n (front ++ back) ≡ fate_of d o s n front

-- counts only rise
abbrev pub CountsRise : Type 0
CountsRise = (J more : List Entry) (o : ℕ) → (ends_at o J ≤ ends_at o (J ++ more))
    × (started_at o J ≤ started_at o (J ++ more))

-- the entry that ended a request: before it the request waited or was open, and how its object stands right after it is
-- what is told with the fate
pub record IsEndOf (d : Domain) (J : List Entry) (o : ℕ) (s : Sender) (n : ℕ) : Type 0 where
  pub front : List Entry
  pub entry : Entry
  pub back : List Entry
  pub journal : J ≡ front ++ entry ∷ back
  pub own : object_of entry ≡ o
  pub before : is_last (fate_of d o s n front) ≡ false
  pub after : fate_of d o s n (front ++ entry ∷ []) ≡ fate_of d o s n J
  pub at : stood (fate_of d o s n J) ≡ Some (stands_of d o (front ++ entry ∷ []))

-- of a request with a last fate there is such an entry
abbrev pub StandsAfter : Type 0
StandsAfter = (d : Domain) (J : List Entry) (o : ℕ) (s : Sender) (n : ℕ) → is_last (fate_of d o s n J) ≡ true →
    IsEndOf d J o s n

-- a request starts once in a legal journal: no two starts at an object have one sender and one number
abbrev pub StartsOnce : Type 0
StartsOnce = (format : Format) (d : Domain) (front mid back : List Entry) (o n a b : ℕ) (s : Sender)
    (xs ys : List Value) → IsLegal format d (front ++ Start o s n a xs ∷ (mid ++ Start o s n b ys ∷ back)) → ⊥

-- a request at a living object, with a number that none of its sender had there yet, waits
abbrev pub UnstartedWait : Type 0
UnstartedWait = (format : Format) (d : Domain) (J : List Entry) (o : ℕ) (s : Sender) (n : ℕ) → IsLegal format d J →
    is_killed o J ≡ false → started_of_sender s o J ≤ n → fate_of d o s n J ≡ Waits

-- ---- what is kept

-- one more request that is watched, with what became of it, changes nothing of what is told
abbrev pub WatchedTell : Type 0
WatchedTell = (d : Domain) (J : List Entry) (f : FatesView) (w : WatchedView) (room : ℕ) → FatesTell d J f → IsCame d J w →
    FatesTell d J (record f { watched = f.watched ++ w ∷ []; room = room })

-- nor does one in place of another
abbrev pub ReplacedTell : Type 0
ReplacedTell = (d : Domain) (J : List Entry) (f : FatesView) (w : WatchedView) (place : ℕ) → FatesTell d J f →
    IsCame d J w → FatesTell d J (record f { watched = slice_set f.watched place w })

-- nor does more room
abbrev pub HeldTell : Type 0
HeldTell = (d : Domain) (J : List Entry) (f : FatesView) (room : ℕ) → FatesTell d J f → FatesTell d J (record f { room = room })

-- counts have room for one more entry while the journal has
abbrev pub CountsHaveRoom : Type 0
CountsHaveRoom = (d : Domain) (J : List Entry) (f : FatesView) (o : ℕ) → FatesTell d J f → length J < most_entries →
    RoomAt f.counts o

-- ---- what is open

-- what is open is a sender's request of a number
pub record IsOpenLetter (s : Sender) (n : ℕ) (opened : Option Letter) : Type 0 where
  pub letter : Letter
  pub is : opened ≡ Some letter
  pub sender : same_sender s letter.sender ≡ true
  pub number : n ≡ letter.number

-- a request of which the fate is open is the one that is open at its object, in a legal journal
abbrev pub OpenIsOpen : Type 0
OpenIsOpen = (format : Format) (d : Domain) (J : List Entry) (o : ℕ) (s : Sender) (n : ℕ) → IsLegal format d J →
    fate_of d o s n J ≡ Open → IsOpenLetter s n (open_at o J)

-- and the other way, in any journal
abbrev pub LetterIsOpen : Type 0
LetterIsOpen = (d : Domain) (J : List Entry) (o : ℕ) (s : Sender) (n : ℕ) → IsOpenLetter s n (open_at o J) →
    fate_of d o s n J ≡ Open
