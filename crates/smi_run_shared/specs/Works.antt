-- The job that a worker gets under the lock, by what the board does.
use Rattle.std.specs.Prelude.{◌≡◌, ◌⊎◌, ℕ, Bool, true, false, [], List, Option, Some, None, IsSomeAnd, slice_set}
use Rattle.smi_journal_entries.specs.Words.{is_killed}
use Rattle.smi_interp.specs.Task.{TaskView}
use Rattle.smi_mail.specs.Mails.{Letters, requests_taken, requests_sent}
use Rattle.smi_board.specs.declared.contacts.Reply.{Reply}
use Rattle.smi_board.specs.declared.contacts.Reply.TheVariants as reply
use Rattle.smi_board.specs.declared.errors.StartError.{StartError}
use Rattle.smi_board.specs.declared.errors.StartError.TheVariants as error
use Rattle.smi_board.specs.declared.resuming.Work.TheVariants.{Resume}
use Rattle.smi_board.specs.declared.starting.Started.{Started}
use Rattle.smi_board.specs.declared.starting.Started.TheVariants.{Run, Skipped}
use Rattle.smi_board.specs.Boards.{BoardView, own_at}
use Rattle.smi_board.specs.Contacts.{Replies, Resumes}
use Rattle.smi_board.specs.Posting.{Lists}
use Rattle.smi_board.specs.Refusals.{start_refusal}
use Rattle.smi_board.specs.Rings.{with_one}
use Rattle.smi_board.specs.Starts.{Starts}
use Rattle.smi_board.specs.Turns.{IsOut}
use Rattle.smi_board.specs.Waking.{NothingNext, behind_first, first_woken}
use Rattle.smi_run_shared.specs.declared.job.Job.{Job}
use Rattle.smi_run_shared.specs.declared.job.Job.TheVariants.{Move, Perform, Again, Rest, Memory}

-- a board over mailboxes that threads share
abbrev pub SharedBoard : Type 0
SharedBoard = BoardView (List Letters)

-- ---- starts

-- this was started at an object
abbrev pub StartsOnBoard : ℕ → SharedBoard → SharedBoard → Started → Type 0
StartsOnBoard o b b2 s = Starts b.domain o (own_at b.params o) b.journal b2.journal None None s

-- whether a start was refused since there were as many as may be, at some time
abbrev pub limited_by : Option StartError → Bool → Bool
limited_by None l = l
limited_by (Some error.Memory) l = l
limited_by (Some error.Limit) l = true
limited_by (Some error.Dead) l = l
limited_by (Some error.AlreadyOpen) l = l
limited_by (Some error.Empty) l = l

-- the job that a worker gets by a start at an object: what was started there; or more may be done, if that was skipped,
-- or if nothing was started and nothing changed; or memory ran out, and the object is woken again
abbrev pub GivesStart : ℕ → SharedBoard → SharedBoard → Job → Type 0
GivesStart o b b2 (Move t) = StartsOnBoard o b b2 (Run t)
GivesStart o b b2 (Perform p s) = (p ≡ o) × StartsOnBoard o b b2 s
GivesStart o b b2 Again = StartsOnBoard o b b2 Skipped ⊎ (b2 ≡ b)
GivesStart o b b2 Rest = ⊥
GivesStart o b b2 Memory = b2 ≡ record b { woken = with_one o b.woken }

-- ---- what comes next

-- a board of which the first woken object that can start a request was returned
abbrev pub handed_out : SharedBoard → SharedBoard
handed_out b = record b { woken = behind_first b.journal b.woken }

-- a start at that object returns this, and it is noted whether there were as many starts as may be
abbrev pub StartsFirst : SharedBoard → SharedBoard → Bool → Bool → Job → Type 0
StartsFirst b b2 l l2 j = IsSomeAnd (first_woken b.journal b.woken) (λ o.
    GivesStart o (handed_out b) b2 j × (l2 ≡ limited_by (start_refusal b.most b.journal o) l))

-- the job that a worker gets next: nothing if nothing comes next; a kept task that can continue, or else what a start
-- returns
abbrev pub GivesNext : SharedBoard → SharedBoard → Bool → Bool → Job → Type 0
GivesNext b b2 l l2 (Move t) = (Resumes b b2 (Resume t) × (l2 ≡ l)) ⊎ StartsFirst b b2 l l2 (Move t)
GivesNext b b2 l l2 (Perform o s) = StartsFirst b b2 l l2 (Perform o s)
GivesNext b b2 l l2 Again = StartsFirst b b2 l l2 Again
GivesNext b b2 l l2 Rest = NothingNext b × (b2 ≡ record b { woken = [] }) × (l2 ≡ l)
GivesNext b b2 l l2 Memory = StartsFirst b b2 l l2 Memory

-- ---- tasks that come back

-- the lists of mailboxes of this capacity; what waits there is not known
abbrev pub shared_lists : ℕ → SharedBoard → Lists
shared_lists capacity b = record {
  taken = requests_taken b.mail;
  sent = requests_sent b.mail;
  waiting = λ o. None;
  capacity = capacity;
}

-- the board answers this to a task's contact
abbrev pub RepliesOnBoard : ℕ → TaskView → SharedBoard → SharedBoard → Reply → Type 0
RepliesOnBoard capacity t b b2 r =
    Replies t t.pending b (shared_lists capacity b) b2 (shared_lists capacity b2) r

-- a task has a place on the board: its object is not killed, and it is out
pub record HasPlace (t : TaskView) (b : SharedBoard) : Type 0 where
  pub alive : is_killed t.turn.object b.journal ≡ false
  pub out : IsOut b.domain b.journal b.params b.kept t.turn

-- a task for which memory ran out is kept, if it has a place; nothing else of its run changes
pub record IsPutBack (t : TaskView) (b b2 : SharedBoard) : Type 0 where
  pub kept : HasPlace t b → b2.kept ≡ slice_set b.kept t.turn.object (Some t)
  pub dropped : ¬ HasPlace t b → b2.kept ≡ b.kept
  pub journal : b2.journal ≡ b.journal
  pub params : b2.params ≡ b.params
  pub woken : b2.woken ≡ b.woken

-- a task without a place is dropped, and nothing of the run changes
pub record IsLetGo (t : TaskView) (b b2 : SharedBoard) : Type 0 where
  pub placeless : ¬ HasPlace t b
  pub journal : b2.journal ≡ b.journal
  pub params : b2.params ≡ b.params
  pub kept : b2.kept ≡ b.kept
  pub woken : b2.woken ≡ b.woken

-- the job that a worker gets that submits a task: the task as the board answered it, or as it was if it asks for
-- nothing; or more may be done, if the board keeps the task, the action ended, or the task had no place; or memory ran
-- out, and the task is put back
abbrev pub GivesBack : ℕ → TaskView → SharedBoard → SharedBoard → Job → Type 0
GivesBack capacity t b b2 (Move t2) = RepliesOnBoard capacity t b b2 (reply.Posted t2)
    ⊎ RepliesOnBoard capacity t b b2 (reply.Seen t2)
    ⊎ RepliesOnBoard capacity t b b2 (reply.Changed t2)
    ⊎ ((t.pending ≡ None) × (t2 ≡ t) × (b2 ≡ b))
GivesBack capacity t b b2 (Perform o s) = ⊥
GivesBack capacity t b b2 Again = RepliesOnBoard capacity t b b2 reply.Waiting
    ⊎ RepliesOnBoard capacity t b b2 reply.Ended
    ⊎ IsLetGo t b b2
GivesBack capacity t b b2 Rest = ⊥
GivesBack capacity t b b2 Memory = IsPutBack t b b2
