-- The mailboxes of a plain mail.
use Rattle.std.specs.Prelude.{◌≡◌, ◌≤◌, ◌<◌, ◌++◌, ℕ, Bool, true, false, List, [], length, map}
use Rattle.std.specs.List.{All, slice_index_or}
use Rattle.sml_domain.specs.Domain.{Domain}
use Rattle.smi_journal_entries.specs.declared.entry.Sender.{Sender}
use Rattle.smi_journal_entries.specs.declared.letter.Letter.{Letter}
use Rattle.smi_journal_entries.specs.Requests.{Request, request_of, from_sender}
use Rattle.smi_journal_entries.specs.Fits.{are_arguments}
use Rattle.smi_mail_plain.specs.Mails.{is_sender}
use Rattle.smi_mail_plain.specs.Counts.{CountsView, count_of}
use Rattle.smi_mail_plain.specs.Numbers.{AreNumbered}

-- a mailbox: what was taken, what waits, whether room is made for one request more, and of how many objects it counts
pub record BoxView : Type 0 where
  pub taken : List Request
  pub waiting : List Request
  pub ready : Bool
  pub objects : ℕ

-- what was posted: what was taken, and then what waits
abbrev pub posted : BoxView → List Request
posted b = b.taken ++ b.waiting

-- the books of a mailbox: counts by sender and in all, and the numbers of what waits
pub record BoxIsKept (counts : CountsView) (all : ℕ) (taken : List Request) (waiting : List Letter) : Type 0 where
  pub counted : (s : Sender) → count_of counts s ≡ length (from_sender s (taken ++ map request_of waiting))
  pub total : all ≡ length (taken ++ map request_of waiting)
  pub numbered : AreNumbered taken waiting

-- all mailboxes of a domain, and how many requests may wait in each
pub record PlainView : Type 0 where
  pub domain : Domain
  pub capacity : ℕ
  pub boxes : List BoxView

-- the mailbox to which nothing was posted, of one of `objects` objects
abbrev pub first_box : ℕ → BoxView
first_box objects = record { taken = []; waiting = []; ready = false; objects = objects }

-- the mailbox of no object
abbrev pub no_box : BoxView
no_box = first_box 0

-- the mailbox of an object
abbrev pub box_at : List BoxView → ℕ → BoxView
box_at boxes o = slice_index_or boxes o no_box

-- what was taken of an object's mailbox
abbrev pub taken_at : PlainView → ℕ → List Request
taken_at m o = (box_at m.boxes o).taken

-- what waits at an object, oldest first
abbrev pub waiting_at : PlainView → ℕ → List Request
waiting_at m o = (box_at m.boxes o).waiting

-- whether room is made for one request more to an object
abbrev pub ready_at : PlainView → ℕ → Bool
ready_at m o = (box_at m.boxes o).ready

-- what a sender sent to an object
abbrev pub sent_at : PlainView → Sender → ℕ → List Request
sent_at m s o = from_sender s (posted (box_at m.boxes o))

-- a request whose sender is one of a domain, and which fits an object
abbrev pub IsMail : Domain → ℕ → Request → Type 0
IsMail d o r = (is_sender d r.sender ≡ true) × (are_arguments d o r.action r.args ≡ true)

-- the mailbox of an object: what waits is mail, no more than the capacity
pub record IsBox (d : Domain) (capacity o : ℕ) (b : BoxView) : Type 0 where
  pub mail : All (IsMail d o) b.waiting
  pub few : length b.waiting ≤ capacity
  pub senders : b.objects ≡ length d.objects

-- a mailbox for each object of a domain
pub record AreBoxes (d : Domain) (capacity : ℕ) (boxes : List BoxView) : Type 0 where
  pub count : length boxes ≡ length d.objects
  pub each : (o : ℕ) → o < length boxes → IsBox d capacity o (box_at boxes o)
