-- What contracts see of a mail: what was taken at each object, and what each sender sent to it.
use Rattle.std.specs.Prelude.{◌≡◌, ◌≢◌, ◌≤◌, ◌++◌, ◌∷◌, ◌+◌, ℕ, Bool, false, nat_lt, List, [], length, map, slice_index_or, slice_set, slice_get, Some}
use Rattle.std.specs.List.{All, range_with_len}
use Rattle.std.specs.Prelude.{Vec}
use Rattle.std.specs.Global.{Global}
use Rattle.atomic_table.specs.Seated.{TableId}
use Rattle.smi_journal_entries.specs.declared.entry.Sender.{Sender}
use Rattle.smi_journal_entries.specs.declared.entry.Sender.TheVariants.{Operator, Object}
use Rattle.smi_journal_entries.specs.declared.letter.Letter.{Letter}
use Rattle.sml_domain.specs.Domain.{Domain}
use Rattle.smi_mail.specs.declared.rule.BoardView.{BoardView}
use Rattle.smi_mail.specs.declared.rule.SessionView.{SessionView}
use Rattle.smi_journal_entries.specs.Requests.{Request}
use Rattle.smi_mail.specs.Letters.{letters_from, requests_in}
use Rattle.smi_mail.specs.declared.rule.Kind.{Kind}
use Rattle.smi_mail.specs.Rule.{opened, mailbox_kind}
use Rattle.smi_mail.specs.Sides.{BoardSide, SessionSide}
use Rattle.smi_mail_plain.specs.declared.plain.TheConstants.{MAX_CAPACITY}
use Rattle.smi_mail.specs.declared.mailboxes.TheConstants.{MAX_SESSIONS}

-- the list of this object is longer by a letter, and no other changed
abbrev pub GrowsByLetter : (ℕ → List Letter) → ℕ → Letter → (ℕ → List Letter) → Type 0
GrowsByLetter before o x after = (after o ≡ before o ++ x ∷ []) × ((k : ℕ) → k ≢ o → after k ≡ before k)

-- no list changed
abbrev pub KeepsLetters : (ℕ → List Letter) → (ℕ → List Letter) → Type 0
KeepsLetters before after = (k : ℕ) → after k ≡ before k

-- what was taken at one object, and what objects sent to it
pub record Letters : Type 0 where
  pub taken : List Letter
  pub sent : List Letter

-- what the board knows of one mailbox
abbrev pub letters_of : BoardSide → Letters
letters_of e = record { taken = e.seen.taken; sent = e.seen.sent }

-- what it knows of an object's
abbrev pub letters_at : List Letters → ℕ → Letters
letters_at m o = slice_index_or m o (record { taken = []; sent = [] })

-- what was taken at an object
abbrev pub letters_taken : List Letters → ℕ → List Letter
letters_taken m o = (letters_at m o).taken

-- what an object sent to another
abbrev pub letters_sent : List Letters → Sender → ℕ → List Letter
letters_sent m s o = letters_from s (letters_at m o).sent

-- what was taken at an object, as the requests of a mail
abbrev pub requests_taken : List Letters → ℕ → List Request
requests_taken m o = requests_in (letters_taken m o)

-- what a sender sent to an object, as the requests of a mail
abbrev pub requests_sent : List Letters → Sender → ℕ → List Request
requests_sent m s o = requests_in (letters_sent m s o)

-- whether a sender is an object of a domain
abbrev pub serves_object : Domain → Sender → Bool
serves_object d (Object a) = nat_lt a (length d.objects)
serves_object d (Operator k) = false

-- the objects of the domain, in order
abbrev pub kinds_of : Domain → List Kind
kinds_of d = map (mailbox_kind d) (range_with_len 0 (length d.objects))

-- the board's end of a mailbox of this capacity while its sessions run
pub record IsRunning (n sessions : ℕ) (b : BoardView) : Type 0 where
  pub capacity : b.capacity ≡ n
  pub made : b.made ≡ sessions + 1
  pub known : b.known ≡ [] ∷ []

-- the board's ends of all mailboxes
pub record AreBoards (d : Domain) (capacity sessions : ℕ) (mailboxes : List TableId) (ends : List BoardSide)
    : Type 0 where
  pub named : map (λ e. e.mailbox) ends ≡ mailboxes
  pub kinds : map (λ e. e.seen.kind) ends ≡ kinds_of d
  pub wide : length ends ≡ length d.objects
  pub each : All (λ e. IsRunning capacity sessions e.seen) ends

-- a session's ends of all mailboxes
pub record AreSessions (d : Domain) (n k : ℕ) (mailboxes : List TableId) (ends : List SessionSide) : Type 0 where
  pub named : map (λ e. e.mailbox) ends ≡ mailboxes
  pub kinds : map (λ e. e.seen.kind) ends ≡ kinds_of d
  pub wide : length ends ≡ length d.objects
  pub each : All (λ e. (e.seen.capacity ≡ n) × (e.seen.session ≡ k)) ends

-- which session it is, and what it sent to each object
pub record OperatorSide : Type 0 where
  pub session : ℕ
  pub sent : List (List Letter)

-- a session by its ends
abbrev pub operator_side : ℕ → List SessionSide → OperatorSide
operator_side k ends = record { session = k; sent = map (λ e. e.seen.sent) ends }

-- what a session sent to an object
abbrev pub session_sent : OperatorSide → ℕ → List Letter
session_sent e o = slice_index_or e.sent o []

-- a session that sent one letter more to an object
abbrev pub with_sent : OperatorSide → ℕ → Letter → OperatorSide
with_sent e o x = record e { sent = slice_set e.sent o (session_sent e o ++ x ∷ []) }

-- what names mailboxes: their domain, their numbers, and which queues they are
pub record MailboxesSide : Type 0 where
  pub domain : Domain
  pub capacity : ℕ
  pub sessions : ℕ
  pub mailboxes : List TableId

-- the limits within which mailboxes are made
abbrev pub AreMailNumbers : ℕ → ℕ → Type 0
AreMailNumbers capacity sessions =
    (1 ≤ capacity) × (capacity ≤ MAX_CAPACITY) × (1 ≤ sessions) × (sessions ≤ MAX_SESSIONS)

-- the board's view of a new mailbox with ends for `sessions` sessions
abbrev pub board_opened : Kind → ℕ → ℕ → BoardView
board_opened kind capacity sessions = record (opened kind capacity) { made = sessions + 1 }

-- the view of a session of a new mailbox, the first one at 0
abbrev pub session_opened : Kind → ℕ → ℕ → SessionView
session_opened kind capacity place = record { kind = kind; capacity = capacity; session = place + 1; sent = [] }

-- the board's ends of new mailboxes of capacity `n`, with ends for `k` sessions
pub record AreOpenBoards (d : Domain) (n k : ℕ) (board : List BoardSide) : Type 0 where
  pub kinds : map (λ e. e.seen.kind) board ≡ kinds_of d
  pub wide : length board ≡ length d.objects
  pub each : All (λ e. e.seen ≡ board_opened e.seen.kind n k) board

-- one session's ends of new mailboxes
pub record AreOpenSessions (n k : ℕ) (board : List BoardSide) (ends : List SessionSide) : Type 0 where
  pub named : map (λ e. e.mailbox) ends ≡ map (λ e. e.mailbox) board
  pub kinds : map (λ e. e.seen.kind) ends ≡ map (λ e. e.seen.kind) board
  pub each : All (λ e. e.seen ≡ session_opened e.seen.kind n k) ends

-- the rows of the sessions made so far
abbrev pub AreRows : ℕ → List BoardSide → List (Vec SessionSide Global) → Type 0
AreRows n board rows = (k : ℕ) (v : Vec SessionSide Global) → slice_get rows k ≡ Some v →
    AreOpenSessions n k board v.items

-- new mailboxes: the board's ends, and each session's
pub record AreMailboxes (d : Domain) (n : ℕ) (board : List BoardSide) (rows : List (Vec SessionSide Global))
    : Type 0 where
  pub boards : AreOpenBoards d n (length rows) board
  pub few : length rows ≤ MAX_SESSIONS
  pub each : AreRows n board rows

-- each session's end is in its place, the first session's first, and has sent nothing
abbrev pub AreFresh : List OperatorSide → Type 0
AreFresh ends = (k : ℕ) (e : OperatorSide) → slice_get ends k ≡ Some e →
    (e.session ≡ k + 1) × ((o : ℕ) → session_sent e o ≡ [])
