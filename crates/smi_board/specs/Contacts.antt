-- What a board answers to a task that is submitted, and what it does.
use Rattle.std.specs.Prelude.{◌≡◌, ◌<◌, ◌++◌, ◌∷◌, ℕ, Bool, true, false, List, [], Option, Some, None, MatchBool}
use Rattle.std.specs.Prelude.{length, map, slice_set}
use Rattle.sml_domain.specs.Domain.{Domain}
use Rattle.smi_board.specs.declared.starting.Started.{Started}
use Rattle.smi_board.specs.declared.starting.Started.TheVariants.{Run, Perform, Skipped}
use Rattle.smi_journal_entries.specs.declared.entry.ActionEnd.TheVariants as ends
use Rattle.smi_journal_entries.specs.declared.entry.Entry.TheVariants as entry
use Rattle.smi_journal_entries.specs.declared.entry.Verdict.{Verdict}
use Rattle.smi_journal_entries.specs.Words.{state_of, change_entry}
use Rattle.smi_meaning.specs.EntryLaws.{are_clear, reading_of}
use Rattle.smi_meaning.specs.Items.{Post}
use Rattle.smi_meaning.specs.Meaning.{state_left}
use Rattle.smi_interp.specs.declared.contact.Contact.{Contact}
use Rattle.smi_interp.specs.declared.contact.Contact.TheVariants as named
use Rattle.sml_domain.specs.Program.{Target, ToOne, ToMembers}
use Rattle.smi_journal_entries.specs.declared.entry.Entry.{Entry}
use Rattle.smi_journal_entries.specs.Sets.{sets_after}
use Rattle.smi_meaning.specs.Meaning.{Wanted}
use Rattle.smi_interp.specs.Expanded.{objects_by_names, posts_in}
use Rattle.smi_interp.specs.Task.{TaskView, outcome_of, task_with_change, with_states, with_verdicts}
use Rattle.smi_board.specs.Boards.{BoardView, kept_at}
use Rattle.smi_board.specs.Posting.{Lists, AreJudged, target_of}
use Rattle.smi_board.specs.Reading.{states_now, waited}
use Rattle.smi_board.specs.Rings.{with_one}
use Rattle.smi_board.specs.Turns.{can_go_on}
use Rattle.smi_board.specs.Waking.{can_start, first_woken, behind_first, with_all}
use Rattle.smi_board.specs.declared.resuming.Work.{Work}
use Rattle.smi_board.specs.declared.resuming.Work.TheVariants.{Resume, Start}
use Rattle.smi_board.specs.declared.contacts.Reply.{Reply}
use Rattle.smi_board.specs.declared.contacts.Reply.TheVariants as reply
use Rattle.smi_board.specs.declared.errors.ContactError.{ContactError}
use Rattle.smi_board.specs.declared.errors.ContactError.TheVariants as error

-- ---- refusals

-- the error of a task that is submitted: its object is killed; else the task is not out; else out of memory
abbrev pub IsContactError : Bool → Type 0 → ContactError → Type 0
IsContactError killed out error.Dead = killed ≡ true
IsContactError killed out error.Stranger = (killed ≡ false) × ¬ out
IsContactError killed out error.Memory = (killed ≡ false) × out

-- the error is `Memory`
abbrev pub IsMemoryError : ContactError → Type 0
IsMemoryError error.Dead = ⊥
IsMemoryError error.Stranger = ⊥
IsMemoryError error.Memory = Unit {0}

-- the contact is the end of an action, which takes no memory
abbrev pub IsEnding : Option Contact → Type 0
IsEnding (Some (named.End s)) = Unit {0}
IsEnding (Some (named.Local p v)) = ⊥
IsEnding (Some (named.Send wanted)) = ⊥
IsEnding (Some (named.Read names)) = ⊥
IsEnding (Some (named.Change add member set)) = ⊥
IsEnding None = ⊥

-- ---- replies

-- the action ends: in this state, or in the one that was; the task's parameters are the object's, which is woken
pub record TaskEnds {M : Type 0} (t : TaskView) (s : Option ℕ) (b b2 : BoardView M) (r : Reply) : Type 0 where
  pub answers : r ≡ reply.Ended
  pub after : b2 ≡ record b {
    journal = b.journal ++ entry.End t.turn.object
        (ends.State (state_left (state_of b.domain t.turn.object b.journal) (outcome_of s))) ∷ [];
    params = slice_set b.params t.turn.object t.params;
    woken = with_one t.turn.object b.woken;
  }

-- there is nobody to post to, which is noted of a set
abbrev pub NotesNobody : ℕ → Target → List Entry → List Entry → Type 0
NotesNobody o (ToOne x) J J2 = J2 ≡ J
NotesNobody o (ToMembers set) J J2 = J2 ≡ J ++ entry.NoMember o set ∷ []

-- the posts to a target are judged one after another; if there are no posts, that is noted of a set
abbrev pub AreSent : ℕ → Target → Lists → List Entry → List Post → List Verdict → Lists → List Entry → Type 0
AreSent o to m J [] vs m2 J2 = (vs ≡ []) × (m2 ≡ m) × NotesNobody o to J J2
AreSent o to m J (p ∷ ps) vs m2 J2 = AreJudged o m J (p ∷ ps) vs m2 J2

-- the posts by the members that sets have now are judged one after another, and the task is answered with their
-- verdicts and these members; their targets are woken
pub record Posts {M : Type 0} (t : TaskView) (w : Wanted) (b : BoardView M) (m : Lists) (b2 : BoardView M)
    (m2 : Lists) (r : Reply) : Type 0 where
  pub verdicts : List Verdict
  pub answers : r ≡ reply.Posted (with_verdicts t verdicts (sets_after b.domain b.journal))
  pub judged : AreSent t.turn.object w.target m b.journal
      (posts_in b.domain (sets_after b.domain b.journal) w) verdicts m2 b2.journal
  pub params_same : b2.params ≡ b.params
  pub kept_same : b2.kept ≡ b.kept
  pub wakes : b2.woken ≡ with_all (map target_of (posts_in b.domain (sets_after b.domain b.journal) w)) b.woken

-- the objects are read in the states in which they are, and the task is answered with these
pub record TaskSees {M : Type 0} (t : TaskView) (objects : List ℕ) (b b2 : BoardView M) (r : Reply) : Type 0 where
  pub answers : r ≡ reply.Seen (with_states t (states_now b.domain b.journal objects) (sets_after b.domain b.journal))
  pub after : b2 ≡ record b {
    journal = b.journal ++ entry.Seen t.turn.object (map (reading_of b.domain b.journal) objects) ∷ [];
  }

-- the object waits, and the board keeps this task
pub record TaskWaits {M : Type 0} (t : TaskView) (b b2 : BoardView M) (r : Reply) : Type 0 where
  pub answers : r ≡ reply.Waiting
  pub after : b2 ≡ record b {
    journal = waited t.turn.object b.journal;
    kept = slice_set b.kept t.turn.object (Some t);
  }

-- the set is changed, and the task is answered that it is
pub record ChangesMembers {M : Type 0} (t : TaskView) (add : Bool) (member set : ℕ) (b b2 : BoardView M)
    (r : Reply) : Type 0 where
  pub answers : r ≡ reply.Changed (task_with_change t)
  pub after : b2 ≡ record b { journal = b.journal ++ change_entry t.turn.object add member set ∷ [] }

-- the objects that names stand for now are read exactly if all of them are clear
abbrev pub TaskReads : {M : Type 0} → TaskView → List ℕ → BoardView M → BoardView M → Reply → Type 0
TaskReads t objects b b2 r =
    MatchBool (are_clear b.journal t.turn.object objects) (TaskSees t objects b b2 r) (TaskWaits t b b2 r)

-- by the contact that waits, by names, and by the members that sets have now
abbrev pub Replies : {M : Type 0}
    → TaskView → Option Contact → BoardView M → Lists → BoardView M → Lists → Reply → Type 0
Replies t (Some (named.End s)) b m b2 m2 r = TaskEnds t s b b2 r
Replies t (Some (named.Send wanted)) b m b2 m2 r = Posts t wanted b m b2 m2 r
Replies t (Some (named.Read names)) b m b2 m2 r =
    TaskReads t (objects_by_names b.domain (sets_after b.domain b.journal) names) b b2 r
Replies t (Some (named.Change add member set)) b m b2 m2 r = ChangesMembers t add member set b b2 r × (m2 ≡ m)
Replies t (Some (named.Local p v)) b m b2 m2 r = ⊥
Replies t None b m b2 m2 r = ⊥

-- ---- what continues

-- the task that was kept of an object and can continue is returned, and kept no more
pub record Resumes {M : Type 0} (b b2 : BoardView M) (w : Work) : Type 0 where
  pub object : ℕ
  pub task : TaskView
  pub resumed : w ≡ Resume task
  pub was_kept : kept_at b.kept object ≡ Some task
  pub goes : can_go_on b.domain object b.journal (Some task) ≡ true
  pub after : b2 ≡ record b { kept = slice_set b.kept object None }

-- the first woken object that can start a request is returned, if no task can continue; it and those before it, which
-- cannot start one, are woken no more
pub record HandsOut {M : Type 0} (b b2 : BoardView M) (o : ℕ) : Type 0 where
  pub none_goes : (x : ℕ) → can_go_on b.domain x b.journal (kept_at b.kept x) ≡ false
  pub first : first_woken b.journal b.woken ≡ Some o
  pub within : o < length b.domain.objects
  pub can : can_start b.journal o ≡ true
  pub after : b2 ≡ record b { woken = behind_first b.journal b.woken }

-- a task continues, or an object is returned
abbrev pub GivesWork : {M : Type 0} → BoardView M → BoardView M → Work → Type 0
GivesWork b b2 (Resume t) = Resumes b b2 (Resume t)
GivesWork b b2 (Start o) = HandsOut b b2 o

-- ---- tasks stay those of a domain and an object

-- the task is one of the domain's object
abbrev pub IsTaskOf : Domain → ℕ → TaskView → Type 0
IsTaskOf d o t = (t.domain ≡ d) × (t.turn.object ≡ o)

-- so is a task that was started
abbrev pub StartsTaskOf : Domain → ℕ → Started → Type 0
StartsTaskOf d o (Run t) = IsTaskOf d o t
StartsTaskOf d o (Perform a args) = Unit {0}
StartsTaskOf d o Skipped = Unit {0}

-- so is a task that comes back
abbrev pub RepliesTaskOf : Domain → ℕ → Reply → Type 0
RepliesTaskOf d o (reply.Posted t) = IsTaskOf d o t
RepliesTaskOf d o (reply.Seen t) = IsTaskOf d o t
RepliesTaskOf d o (reply.Changed t) = IsTaskOf d o t
RepliesTaskOf d o reply.Waiting = Unit {0}
RepliesTaskOf d o reply.Ended = Unit {0}

-- and a task that continues
abbrev pub ResumesTaskOf : Domain → Work → Type 0
ResumesTaskOf d (Resume t) = (t.domain ≡ d) × (t.turn.object < length d.objects)
ResumesTaskOf d (Start o) = Unit {0}
