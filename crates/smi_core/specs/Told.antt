-- What a board tells of itself, and what becomes of a machine's tasks.
use Rattle.std.specs.Prelude.{◌≡◌, false, ◌<◌, ◌≤◌, ◌-◌, ◌==◌, ℕ, if◌then◌else◌, List, Option, Some, None, Result, Ok, Err, length, slice_set}
use Rattle.sml_domain.specs.Sound.{IsSound}
use Rattle.smi_journal_entries.specs.declared.entry.Entry.{Entry}
use Rattle.smi_journal_entries.specs.Sets.{AreOf, sets_after}
use Rattle.smi_interp.specs.declared.contact.Contact.{Contact}
use Rattle.smi_interp.specs.declared.contact.Contact.TheVariants.{Local, Send, Read, Change, End}
use Rattle.smi_interp.specs.Task.{TaskView}
use Rattle.smi_mail_plain.specs.Boxes.{PlainView, taken_at, sent_at, waiting_at}
use Rattle.smi_mail_plain.specs.Mails.{is_sender}
use Rattle.smi_board.specs.Boards.{BoardView, EachRuns, IsTied, kept_at}
use Rattle.smi_board.specs.Turns.{EachKept, can_go_on}
use Rattle.smi_world.specs.declared.step.Answer.{Answer}
use Rattle.smi_world.specs.declared.step.Answer.TheVariants.{Changed, Entries, Still}
use Rattle.smi_world.specs.declared.refusal.StepError.{StepError}
use Rattle.smi_world.specs.declared.refusal.StepError.TheVariants.{Memory}
use Rattle.smi_world.specs.Moves.{ActionGoesOn}
use Rattle.smi_core.specs.Machines.{Tasks, HaveTasks, setup_of, world_of}

-- what holds of every board over the mail of one thread
pub record BoardIsTold (b : BoardView PlainView) : Type 0 where
  pub tied : IsTied b.domain b.journal b.params (is_sender b.mail.domain) (taken_at b.mail) (sent_at b.mail)
  pub runs : EachRuns b.domain b.journal b.params
  pub kept : EachKept b.domain b.journal b.params b.kept
  pub few : (o : ℕ) → length (waiting_at b.mail o) ≤ b.mail.capacity
  pub boxes : length b.mail.boxes ≡ length b.domain.objects
  pub sound : IsSound b.domain
  pub members : AreOf b.domain (sets_after b.domain b.journal)

-- so it holds of a board and its tasks
abbrev pub HaveTheirs : BoardView PlainView → Tasks → Type 0
HaveTheirs b tasks = HaveTasks b.domain b.journal b.params b.kept tasks

-- the tasks with one more, at its object
abbrev pub with_task : Tasks → TaskView → Tasks
with_task rest t = slice_set rest t.turn.object (Some t)

-- a task was taken from its place beside a board
pub record TaskIsTaken (b : BoardView PlainView) (t : TaskView) (rest : Tasks) : Type 0 where
  pub within : t.turn.object < length b.domain.objects
  pub none : kept_at rest t.turn.object ≡ None
  pub have : HaveTheirs b (with_task rest t)

-- nothing changed except the places of tasks
pub record Stays (b : BoardView PlainView) (tasks : Tasks) (b2 : BoardView PlainView) (tasks2 : Tasks) : Type 0 where
  pub world : world_of b2 tasks2 ≡ world_of b tasks
  pub setup : setup_of b2 ≡ setup_of b

-- no task continues, and nothing changed except which objects are woken
pub record IsRested (b b2 : BoardView PlainView) : Type 0 where
  pub none : (o : ℕ) → can_go_on b.domain o b.journal (kept_at b.kept o) ≡ false
  pub after : b2 ≡ record b { woken = b2.woken }

-- the task of an object was taken from its place, or no task of it is there and the board keeps none that can continue
abbrev pub CoreTakes : BoardView PlainView → Tasks → ℕ → Option TaskView → BoardView PlainView → Tasks → Type 0
CoreTakes b tasks o (Some t) b2 rest = (t.turn.object ≡ o) × TaskIsTaken b2 t rest × Stays b tasks b2 (with_task rest t)
CoreTakes b tasks o None b2 rest =
    (kept_at rest o ≡ None) × (can_go_on b2.domain o b2.journal (kept_at b2.kept o) ≡ false) × HaveTheirs b2 rest
    × Stays b tasks b2 rest

-- a move was made, or memory ran out and nothing changed
abbrev pub MovesOn : BoardView PlainView → Tasks → ℕ → Result Answer StepError → BoardView PlainView → Tasks → Type 0
MovesOn b tasks o (Ok a) b2 tasks2 = ActionGoesOn (setup_of b) (world_of b tasks) o a (world_of b2 tasks2)
MovesOn b tasks o (Err e) b2 tasks2 = (e ≡ Memory) × (world_of b2 tasks2 ≡ world_of b tasks)

-- the open action of an object continues so, under the same limits, and the tasks are again those of the board
pub record CoreGoes (b : BoardView PlainView) (tasks : Tasks) (o : ℕ) (r : Result Answer StepError)
    (b2 : BoardView PlainView) (tasks2 : Tasks) : Type 0 where
  pub moves : MovesOn b tasks o r b2 tasks2
  pub setup : setup_of b2 ≡ setup_of b
  pub have : HaveTheirs b2 tasks2

-- the answer that tells the entries from one journal to another
abbrev pub entries_from : List Entry → List Entry → Answer
entries_from J J2 = Entries (length J) (length J2 - length J)

-- the answer where an object waits: it waits on where no entry was added
abbrev pub waited_from : List Entry → List Entry → Answer
waited_from J J2 = if length J2 == length J then Still else entries_from J J2

-- the answer that tells a set, where a contact is one
abbrev pub changed_by : Contact → Option Answer
changed_by (Local p v) = Some (Changed p v)
changed_by (Send wanted) = None
changed_by (Read names) = None
changed_by (Change add member set) = None
changed_by (End s) = None
