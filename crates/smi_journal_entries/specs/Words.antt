-- What a journal says, as filters and folds of the whole list.
use Rattle.std.specs.Prelude.{ℕ, Bool, true, false, ◌==◌, ◌&&◌, ◌||◌, not, nat_eq, if◌then◌else◌, List, [], ◌∷◌, ◌++◌, Option, Some, None, is_some, length, fold, flat_map, map}
use Rattle.std.specs.List.{position_from}
use Rattle.std.specs.Option.{option_map_or}
use Rattle.sml_domain.specs.declared.value.Value.{Value}
use Rattle.sml_domain.specs.Truth.{Reading}
use Rattle.sml_domain.specs.Domain.{Domain}
use Rattle.sml_domain.specs.Lookups.{class_at, initial_state, dead_state}
use Rattle.smi_journal_entries.specs.declared.entry.Sender.TheVariants.{Object}
use Rattle.smi_journal_entries.specs.declared.entry.Verdict.{Verdict}
use Rattle.smi_journal_entries.specs.declared.entry.Verdict.TheVariants.{Accepted, Full, Dead}
use Rattle.smi_journal_entries.specs.declared.entry.ActionEnd.TheVariants.{State, Skipped}
use Rattle.smi_journal_entries.specs.declared.entry.Entry.{Entry}
use Rattle.smi_journal_entries.specs.declared.entry.Entry.TheVariants.{Start, Post, Wait, Seen, End, Kill, Insert, Remove, NoMember}
use Rattle.smi_journal_entries.specs.declared.entry.MoveReply.{MoveReply}
use Rattle.smi_journal_entries.specs.declared.entry.MoveReply.TheVariants.{Told, Read, Nobody, Changed}
use Rattle.smi_journal_entries.specs.declared.letter.Letter.{Letter}
use Rattle.smi_journal_entries.specs.Requests.{Request, from_sender}
use Rattle.smi_journal_entries.specs.Sets.{Sets, unchanged, sets_next}

-- the object that an entry is of
abbrev pub object_of : Entry → ℕ
object_of (Start x s n a args) = x
object_of (Post x t v a args) = x
object_of (Wait x) = x
object_of (Seen x rs) = x
object_of (End x r) = x
object_of (Kill x c) = x
object_of (Insert x o set) = x
object_of (Remove x o set) = x
object_of (NoMember x set) = x

-- the start of a letter at an object
abbrev pub start_of : ℕ → Letter → Entry
start_of o l = Start o l.sender l.number l.action l.args

-- the request that an entry starts anywhere
abbrev pub any_start : Entry → List Request
any_start (Start x s n a args) = record { sender = s; action = a; args = args } ∷ []
any_start (Post x t v a args) = []
any_start (Wait x) = []
any_start (Seen x rs) = []
any_start (End x r) = []
any_start (Kill x c) = []
any_start (Insert x o set) = []
any_start (Remove x o set) = []
any_start (NoMember x set) = []

-- the requests started at all objects
abbrev pub all_starts : List Entry → List Request
all_starts J = flat_map any_start J

-- the request that an entry starts at an object
abbrev pub start_in : ℕ → Entry → List Request
start_in o e = if o == object_of e then any_start e else []

-- the requests started at an object, with their senders
abbrev pub starts_at : ℕ → List Entry → List Request
starts_at o J = flat_map (start_in o) J

-- the request that an entry posts to an object, if it was accepted
abbrev pub posted_to : ℕ → Entry → List Request
posted_to b (Start x s n a args) = []
posted_to b (Post x t (Accepted n) a args) =
    if b == t then record { sender = Object x; action = a; args = args } ∷ [] else []
posted_to b (Post x t Full a args) = []
posted_to b (Post x t Dead a args) = []
posted_to b (Wait x) = []
posted_to b (Seen x rs) = []
posted_to b (End x r) = []
posted_to b (Kill x c) = []
posted_to b (Insert x o set) = []
posted_to b (Remove x o set) = []
posted_to b (NoMember x set) = []

-- the request that an entry posts from one object to another, if it was accepted
abbrev pub post_in : ℕ → ℕ → Entry → List Request
post_in a b e = if a == object_of e then posted_to b e else []

-- the accepted posts of one object to another
abbrev pub posts_between : ℕ → ℕ → List Entry → List Request
posts_between a b J = flat_map (post_in a b) J

-- what is open after an entry of the object
abbrev pub opened_by : Option Letter → Entry → Option Letter
opened_by was (Start x s n a args) = Some (record { sender = s; number = n; action = a; args = args })
opened_by was (Post x t v a args) = was
opened_by was (Wait x) = was
opened_by was (Seen x rs) = was
opened_by was (End x r) = None
opened_by was (Kill x c) = None
opened_by was (Insert x o set) = was
opened_by was (Remove x o set) = was
opened_by was (NoMember x set) = was

-- what is open at an object, after one more entry
abbrev pub open_next : ℕ → Option Letter → Entry → Option Letter
open_next o was e = if o == object_of e then opened_by was e else was

-- the letter whose action is open at an object: it was started, with no later end or kill
abbrev pub open_at : ℕ → List Entry → Option Letter
open_at o J = fold (open_next o) None J

-- whether an action is open at an object
abbrev pub is_open : ℕ → List Entry → Bool
is_open o J = is_some (open_at o J)

-- the state after an entry of the object, which is the dead one after a kill
abbrev pub state_by : ℕ → ℕ → Entry → ℕ
state_by dead was (Start x s n a args) = was
state_by dead was (Post x t v a args) = was
state_by dead was (Wait x) = was
state_by dead was (Seen x rs) = was
state_by dead was (End x (State s)) = s
state_by dead was (End x Skipped) = was
state_by dead was (Kill x c) = dead
state_by dead was (Insert x o set) = was
state_by dead was (Remove x o set) = was
state_by dead was (NoMember x set) = was

-- the state of an object, after one more entry
abbrev pub state_next : ℕ → ℕ → ℕ → Entry → ℕ
state_next o dead was e = if o == object_of e then state_by dead was e else was

-- the state of an object that began in a state and has a dead one
abbrev pub state_after : ℕ → ℕ → ℕ → List Entry → ℕ
state_after o first dead J = fold (state_next o dead) first J

-- the state in which an object begins
abbrev pub initial_of : Domain → ℕ → ℕ
initial_of d o = option_map_or initial_state (class_at d o) 0

-- the state in which an object is when it is killed
abbrev pub dead_of : Domain → ℕ → ℕ
dead_of d o = option_map_or dead_state (class_at d o) 0

-- the state of an object of a domain after a journal
abbrev pub state_of : Domain → ℕ → List Entry → ℕ
state_of d o J = state_after o (initial_of d o) (dead_of d o) J

-- what was read, and the members that sets had then
pub record Sight : Type 0 where
  pub sets : Sets
  pub readings : List Reading

-- What a journal shows of a move: a post with its verdict, that a set had no member to post to, what was read, or that
-- an object was put into a set or taken out. All except the last have the members that sets had.
pub data Item : Type 0 where
  Sent : (sets : Sets) (target : ℕ) (verdict : Verdict) (action : ℕ) (args : List Value) → Item
  HadNone : (sets : Sets) (set : ℕ) → Item
  Saw : Sight → Item
  Turned : (add : Bool) (member set : ℕ) → Item

-- the answer of a shown move
abbrev pub answer_of : Item → MoveReply
answer_of (Sent sets t v a args) = Told v sets
answer_of (HadNone sets set) = Nobody sets
answer_of (Saw sight) = Read sight.readings sight.sets
answer_of (Turned add o set) = Changed

-- what is shown after an entry of the object, where sets have these members
abbrev pub shown_by : Sets → List Item → Entry → List Item
shown_by sets was (Start x s n a args) = []
shown_by sets was (Post x t v a args) = was ++ Sent sets t v a args ∷ []
shown_by sets was (Wait x) = was
shown_by sets was (Seen x rs) = was ++ Saw (record { sets = sets; readings = rs }) ∷ []
shown_by sets was (End x r) = []
shown_by sets was (Kill x c) = []
shown_by sets was (Insert x o set) = was ++ Turned true o set ∷ []
shown_by sets was (Remove x o set) = was ++ Turned false o set ∷ []
shown_by sets was (NoMember x set) = was ++ HadNone sets set ∷ []

-- the moves that the open action of an object has shown, after one more entry, where sets have these members
abbrev pub shown_next : ℕ → Sets → List Item → Entry → List Item
shown_next o sets was e = if o == object_of e then shown_by sets was e else was

-- the members of all sets and what is shown, after one more entry
abbrev pub past_next : Domain → ℕ → (Sets × List Item) → Entry → Sets × List Item
past_next d o was e = (sets_next d was.0 e, shown_next o was.0 was.1 e)

-- the members of all sets, and what the open action of an object has shown, after a journal
abbrev pub past_of : Domain → ℕ → List Entry → Sets × List Item
past_of d o J = fold (past_next d o) (unchanged d, []) J

-- the moves that the open action of an object has shown
abbrev pub shown_of : Domain → ℕ → List Entry → List Item
shown_of d o J = (past_of d o J).1

-- the answers to these moves
abbrev pub answers_of : Domain → ℕ → List Entry → List MoveReply
answers_of d o J = map answer_of (shown_of d o J)

-- whether an entry is a wait
abbrev pub is_wait : Entry → Bool
is_wait (Start x s n a args) = false
is_wait (Post x t v a args) = false
is_wait (Wait x) = true
is_wait (Seen x rs) = false
is_wait (End x r) = false
is_wait (Kill x c) = false
is_wait (Insert x o set) = false
is_wait (Remove x o set) = false
is_wait (NoMember x set) = false

-- whether the last entry of an object is a wait, after one more entry
abbrev pub waits_next : ℕ → Bool → Entry → Bool
waits_next o was e = if o == object_of e then is_wait e else was

-- whether an object waits: its last own entry is a wait
abbrev pub waits_at : ℕ → List Entry → Bool
waits_at o J = fold (waits_next o) false J

-- whether an entry is a kill
abbrev pub is_kill : Entry → Bool
is_kill (Start x s n a args) = false
is_kill (Post x t v a args) = false
is_kill (Wait x) = false
is_kill (Seen x rs) = false
is_kill (End x r) = false
is_kill (Kill x c) = true
is_kill (Insert x o set) = false
is_kill (Remove x o set) = false
is_kill (NoMember x set) = false

-- whether an entry kills an object
abbrev pub kills : ℕ → Entry → Bool
kills o e = if o == object_of e then is_kill e else false

-- the place of the kill of an object
abbrev pub killed_at : ℕ → List Entry → Option ℕ
killed_at o J = position_from (kills o) 0 J

-- the place that was found, or else this one if a test passes there
abbrev pub place_next : ℕ → Option ℕ → Bool → Option ℕ
place_next n None passes = if passes then Some n else None
place_next n (Some i) passes = Some i

-- the place of the kill of an object, after an entry at a place
abbrev pub killed_next : ℕ → ℕ → Option ℕ → Entry → Option ℕ
killed_next o n was e = place_next n was (kills o e)

-- whether an object is killed
abbrev pub is_killed : ℕ → List Entry → Bool
is_killed o J = is_some (killed_at o J)

-- whether all that an object posted to another is started there
abbrev pub posts_are_started : ℕ → ℕ → List Entry → Bool
posts_are_started a o J = nat_eq (length (posts_between a o J)) (length (from_sender (Object a) (starts_at o J)))

-- whether an object is clear for another: killed, or not open and all that the other posted to it is started
abbrev pub is_clear : ℕ → ℕ → List Entry → Bool
is_clear a o J = is_killed o J || (not (is_open o J) && posts_are_started a o J)

-- the entry of an object that is put into a set, or taken out
abbrev pub change_entry : ℕ → Bool → ℕ → ℕ → Entry
change_entry o true member set = Insert o member set
change_entry o false member set = Remove o member set
