-- The world of a board and of the tasks beside it.
use Rattle.std.specs.Prelude.{◌≡◌, ◌<◌, ◌≤◌, ℕ, true, false, List, [], Option, Some, None, IfSome, length, is_some}
use Rattle.sml_domain.specs.declared.value.Value.{Value}
use Rattle.sml_domain.specs.Domain.{Domain}
use Rattle.sml_domain.specs.Lookups.{associated_at}
use Rattle.smi_journal_entries.specs.declared.entry.Entry.{Entry}
use Rattle.smi_journal_entries.specs.Requests.{Request}
use Rattle.smi_journal_entries.specs.Words.{is_open, waits_at}
use Rattle.smi_meaning.specs.Meaning.{Move}
use Rattle.smi_interp.specs.Task.{TaskView}
use Rattle.smi_mail_plain.specs.Boxes.{PlainView, box_at, posted}
use Rattle.smi_board.specs.Boards.{BoardView, own_at, kept_at}
use Rattle.smi_board.specs.Turns.{IsOf}
use Rattle.smi_world.specs.World.{Setup, World}
use Rattle.smi_core.specs.Listed.{listed_below}
use Rattle.smi_mail_plain.specs.declared.plain.TheConstants.{MAX_CAPACITY}
use Rattle.smi_core.specs.declared.stepper.TheConstants.{MAX_STARTS}

-- a core: what it runs and under which limits, and its world
pub record CoreView : Type 0 where
  pub setup : Setup
  pub world : World

-- the tasks beside a board, one for each object or none
abbrev pub Tasks : Type 0
Tasks = List (Option TaskView)

-- the task of an object that is under way: the one beside the board, or else the one that the board keeps
abbrev pub either_task : Option TaskView → Option TaskView → Option TaskView
either_task None kept = kept
either_task (Some t) kept = Some t

-- the moves that a task made
abbrev pub moves_in : Option TaskView → List Move
moves_in None = []
moves_in (Some t) = t.turn.moves

-- the requests accepted at an object: what was taken, and then what waits
abbrev pub queue_in : PlainView → ℕ → List Request
queue_in m o = posted (box_at m.boxes o)

-- the moves of an object
abbrev pub moves_at : List (Option TaskView) → Tasks → ℕ → List Move
moves_at kept tasks o = moves_in (either_task (kept_at tasks o) (kept_at kept o))

-- the domain and the limits of a board
abbrev pub setup_of : BoardView PlainView → Setup
setup_of b = record { domain = b.domain; capacity = b.mail.capacity; max_starts = b.most }

-- the world of a board, with the tasks beside it
abbrev pub world_of : BoardView PlainView → Tasks → World
world_of b tasks = record {
  journal = b.journal;
  arrived = listed_below (length b.domain.objects) (queue_in b.mail);
  moves = listed_below (length b.domain.objects) (moves_at b.kept tasks);
}

-- the tasks of an object: one beside the board is that of the open action, and then the board keeps none; each open
-- action that no device performs has one; and where the board keeps one, the object waits
pub record HasTask (d : Domain) (J : List Entry) (own : List Value) (o : ℕ)
    (beside kept : Option TaskView) : Type 0 where
  pub out : IfSome beside (λ t. IsOf d J own o t × (kept ≡ None))
  pub there : is_open o J ≡ true → associated_at d o ≡ false → is_some (either_task beside kept) ≡ true
  pub waits : IfSome kept (λ t. waits_at o J ≡ true)

-- so it is of each object
pub record HaveTasks (d : Domain) (J : List Entry) (params : List (List Value)) (kept : List (Option TaskView))
    (tasks : Tasks) : Type 0 where
  pub count : length tasks ≡ length d.objects
  pub each : (o : ℕ) → o < length d.objects → HasTask d J (own_at params o) o (kept_at tasks o) (kept_at kept o)

-- the limits with which a core may run
abbrev pub AreLimits : ℕ → ℕ → Type 0
AreLimits capacity max_starts =
    (1 ≤ capacity) × (capacity ≤ MAX_CAPACITY) × (1 ≤ max_starts) × (max_starts ≤ MAX_STARTS)
