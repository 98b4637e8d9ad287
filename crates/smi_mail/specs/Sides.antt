-- What contracts see of an end of one mailbox: which mailbox it is, and what the end knows.
use Rattle.std.specs.Prelude.{◌≡◌, ◌<◌, ◌++◌, ℕ, List, [], length, slice_index, Option}
use mathlib.Core.List.{IsPrefix}
use Rattle.atomic_table.specs.Seated.{TableId}
use Rattle.crossbeam_queue.specs.Passes.{Pass, view, IsPassOf, ruled_capacity}
use Rattle.crossbeam_queue.specs.declared.array_queue.Doing.{Doing}
use Rattle.crossbeam_queue.specs.declared.array_queue.Slotted.{Slotted}
use Rattle.smi_journal_entries.specs.declared.letter.Letter.{Letter}
use Rattle.smi_mail.specs.declared.rule.BoardView.{BoardView}
use Rattle.smi_mail.specs.declared.rule.SessionView.{SessionView}
use Rattle.smi_mail.specs.declared.rule.Knows.{Knows}
use Rattle.smi_mail.specs.declared.rule.Knows.TheVariants.{Board, Session, Nothing}
use Rattle.smi_journal_entries.specs.declared.entry.Sender.{Sender}
use Rattle.smi_journal_entries.specs.declared.entry.Sender.TheVariants.{Object}
use Rattle.smi_mail.specs.Letters.{letters_from}
use Rattle.smi_mail.specs.Rule.{no_kind, sent_of}

-- a session's end: which queue it is of, and what its pass knows
pub record SessionSide : Type 0 where
  pub mailbox : TableId
  pub seen : SessionView

-- the board's end, likewise
pub record BoardSide : Type 0 where
  pub mailbox : TableId
  pub seen : BoardView

-- the view of a session's pass
abbrev pub session_view : Knows → SessionView
session_view (Session s) = s
session_view (Board b) = record { kind = no_kind; capacity = 0; session = 0; sent = [] }
session_view Nothing = record { kind = no_kind; capacity = 0; session = 0; sent = [] }

-- a view that no pass of a board has
abbrev pub no_board : BoardView
no_board = record { kind = no_kind; capacity = 0; most = 0; made = 0; taken = []; left = []; sent = []; known = [] }

-- the view of the board's pass
abbrev pub board_view : Knows → BoardView
board_view (Board b) = b
board_view (Session s) = no_board
board_view Nothing = no_board

module _ {Q A : Type 0} (q : Slotted (Option Letter) (Doing Letter Knows) Q A) (p : Pass Letter Knows) where
  -- a session's end by its queue and its pass
  abbrev pub session_side : SessionSide
  session_side = record { mailbox = q.table.shared.table_id; seen = session_view (view p) }

  -- the board's end, likewise
  abbrev pub board_side : BoardSide
  board_side = record { mailbox = q.table.shared.table_id; seen = board_view (view p) }

  -- the pass is a session's, of this mailbox
  pub record IsSession (s : SessionView) : Type 0 where
    pub pass : IsPassOf q p
    pub seen : view p ≡ Session s
    pub capacity : ruled_capacity q ≡ s.capacity

  -- the pass is the board's, of this mailbox
  pub record IsBoard (b : BoardView) : Type 0 where
    pub pass : IsPassOf q p
    pub seen : view p ≡ Board b
    pub capacity : ruled_capacity q ≡ b.capacity

  -- The end of the board, with the count of what each object sent. What was taken of an object is a prefix of what it
  -- sent.
  pub record IsBoardEnd (b : BoardView) (counts : List ℕ) : Type 0 where
    pub ties : IsBoard b
    pub most : b.most ≡ b.capacity
    pub none : b.left ≡ []
    pub wide : length counts ≡ length b.kind.domain.objects
    pub counted : (a : ℕ) → a < length counts → slice_index counts a ≡ length (letters_from (Object a) b.sent)
    pub order : (a : ℕ) → IsPrefix (letters_from (Object a) b.taken) (letters_from (Object a) b.sent)

  -- the pass while the board takes what is left, after these were taken
  pub record IsDraining (b : BoardView) (most : ℕ) (left : List Letter) : Type 0 where
    pub pass : IsPassOf q p
    pub seen : view p ≡ Board (record b { left = left; most = most })

module _ (p : Pass Letter Knows) where
  -- the board's end when its mailbox was drained
  abbrev pub drained_side : BoardSide
  drained_side = record { mailbox = p.table_id; seen = board_view (view p) }

  -- what each sender sent is what was taken of it, and then what is left of it
  pub record IsDrainedEnd (left : List Letter) (b : BoardView) : Type 0 where
    pub left_is : left ≡ b.left
    pub settled : (s : Sender) → sent_of b s ≡ letters_from s b.taken ++ letters_from s b.left
