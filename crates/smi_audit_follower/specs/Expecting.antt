-- What a follower says of its action.
use Rattle.std.specs.Prelude.{◌≡◌, ◌↔◌, ℕ, List, [], ◌∷◌, IfSome, Option, Some, None}
use Rattle.sml_domain.specs.Program.{Subject, Target, ToOne, ToMembers}
use Rattle.smi_journal_entries.specs.Sets.{Sets}
use Rattle.smi_journal_entries.specs.Words.{Item}
use Rattle.smi_meaning.specs.Items.{Post}
use Rattle.smi_meaning.specs.Meaning.{Wanted}
use Rattle.smi_meaning.specs.Shown.{Question, ToPost, ToHave, ToRead, ToChange, question_in, sets_of}
use Rattle.smi_interp.specs.declared.cursor.Place.{Place}
use Rattle.smi_interp.specs.Expanded.{objects_by_names, posts_in}
use Rattle.smi_interp.specs.Task.{IsContactAt, TaskView}
use Rattle.smi_audit_follower.specs.declared.follower.Ended.{Ended}
use Rattle.smi_audit_follower.specs.declared.follower.Expected.{Expected}
use Rattle.smi_audit_follower.specs.declared.follower.Expected.TheVariants as expected
use Rattle.smi_audit_follower.specs.declared.follower.Begun.{Begun}
use Rattle.smi_audit_follower.specs.Followers.{seen_by}
use Rattle.smi_audit_follower.specs.Passing.{ContactStands}
use Rattle.smi_audit_follower.specs.Following.{FollowerView, Asks, EndsIn, FollowerMayEnd, MayShow, MayTell}

-- what a send asks first, to this target and with these posts: that its first is posted, or that its set has no member
abbrev pub send_question : Target → List Post → Option Question
send_question (ToOne o) [] = None
send_question (ToMembers set) [] = Some (ToHave set)
send_question to (p ∷ ps) = Some (ToPost p)

-- within a send that is begun, the action may show this post with any verdict, by the members by which the send is
-- begun, and nothing else
abbrev pub PostsNext : FollowerView → Post → Type 0
PostsNext f p =
    (sets : Sets) × ((item : Item) → MayShow f item ↔ ((sets_of item ≡ Some sets) × (question_in item ≡ ToPost p)))

-- for any members that sets have, the action asks what this send asks first by these
abbrev pub SendsNext : FollowerView → Wanted → Type 0
SendsNext f w = (sets : Sets) → MayTell f.format f.domain sets
    → (q : Question) × (send_question w.target (posts_in f.domain sets w) ≡ Some q) × Asks f sets q

-- for any members that sets have, the action reads the objects that these names stand for by these
abbrev pub FollowerReadsNext : FollowerView → List Subject → Type 0
FollowerReadsNext f names =
    (sets : Sets) → MayTell f.format f.domain sets → Asks f sets (ToRead (objects_by_names f.domain sets names))

-- what the action shows next: it may show that and nothing else, or ends in this state
abbrev pub IsExpected : FollowerView → Expected → Type 0
IsExpected f (expected.Post post) = PostsNext f post.now
IsExpected f (expected.Send wanted) = SendsNext f wanted.now
IsExpected f (expected.Read names) = FollowerReadsNext f names.now
IsExpected f (expected.Change add member set) = (sets : Sets) → Asks f sets (ToChange add member set)
IsExpected f (expected.End s) = FollowerMayEnd f s

-- a task that has shown what the action has waits with what comes first at this place, and shows it or ends with it
pub record WaitsAt (f : FollowerView) (p : Place) : Type 0 where
  pub task : TaskView
  pub begun : Option Begun
  pub is : seen_by f.format task begun ≡ f
  pub stands : ContactStands f.format task.domain task.pending
  pub waits : IfSome task.pending (IsContactAt task p)

-- the action ends so, exactly if it may end
abbrev pub FollowerEnds : FollowerView → Option Ended → Type 0
FollowerEnds f (Some e) = EndsIn f e.state e.params.items
FollowerEnds f None = (s : ℕ) → ¬ FollowerMayEnd f s
