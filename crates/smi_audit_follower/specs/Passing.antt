-- How a task comes to a contact that shows something.
use Rattle.std.specs.Prelude.{◌≡◌, ◌≤◌, ◌+◌, ℕ, Bool, true, false, not, suc, nat_eq, [], Option, Some, None, length}
use Rattle.sml_domain.specs.Program.{Target, ToOne, ToMembers, Program, Nothing, SetThen, SendThen, SendNoneThen, IfThen, EndIn, TerminateIn, WaitThen, ChangeThen}
use Rattle.sml_domain.specs.Domain.{Domain}
use Rattle.sml_domain.specs.Lookups.{members_at}
use Rattle.smi_journal_entries.specs.declared.journal.Format.{Format}
use Rattle.smi_journal_entries.specs.declared.journal.Format.TheVariants.{One, Two}
use Rattle.smi_meaning.specs.Meaning.{Wanted, state_left}
use Rattle.smi_interp.specs.declared.contact.Contact.{Contact}
use Rattle.smi_interp.specs.declared.contact.Contact.TheVariants as named
use Rattle.smi_interp.specs.Task.{TaskView, body, outcome_of}
use Rattle.smi_audit_follower.specs.Following.{FollowerView, AreTellable, seen_of}

-- whether there is somebody to send to, as sets are declared
abbrev pub is_anybody : Domain → Target → Bool
is_anybody d (ToOne o) = true
is_anybody d (ToMembers set) = not (nat_eq (length (members_at d set)) 0)

-- whether something is sent, as sets are declared; no class declares the action of a send without one
abbrev pub is_sent : Domain → Target → Option ℕ → Bool
is_sent d to None = false
is_sent d to (Some a) = is_anybody d to

-- whether a journal of a format tells of a send: in the first not of one to a set that is declared without members
abbrev pub is_said : Format → Domain → Wanted → Bool
is_said One d w = is_sent d w.target w.action
is_said Two d w = true

-- a contact waits that shows something or is the end
abbrev pub ContactStands : Format → Domain → Option Contact → Type 0
ContactStands format d (Some (named.Local p v)) = ⊥
ContactStands format d (Some (named.Send w)) = is_said format d w ≡ true
ContactStands format d (Some (named.Read names)) = Unit {0}
ContactStands format d (Some (named.Change add member set)) = Unit {0}
ContactStands format d (Some (named.End o)) = Unit {0}
ContactStands format d None = ⊥

-- the state in which an action ends that began in a state, where its end waits
abbrev pub end_of : ℕ → Option Contact → Option ℕ
end_of was (Some (named.End o)) = Some (state_left was (outcome_of o))
end_of was (Some (named.Send w)) = None
end_of was (Some (named.Read names)) = None
end_of was (Some (named.Change add member set)) = None
end_of was (Some (named.Local p v)) = None
end_of was None = None

-- how many moves a block makes at most
abbrev pub size : Program → ℕ
size Nothing = 0
size (EndIn s) = 0
size (TerminateIn s) = 0
size (SetThen p x rest) = suc (size rest)
size (SendThen target a args rest) = suc (size rest)
size (SendNoneThen set rest) = suc (size rest)
size (IfThen f p q rest) = suc (size p + size q + size rest)
size (WaitThen names rest) = suc (size rest)
size (ChangeThen add member set rest) = suc (size rest)

-- a task as an action that has shown what its moves show
abbrev pub fresh_of : Format → TaskView → FollowerView
fresh_of format t = seen_of format t [] [] []

-- the task made a move that shows nothing, one of the few that its block makes
pub record HasPassed (format : Format) (t u : TaskView) : Type 0 where
  pub idle : u.pending ≡ None
  pub domain : u.domain ≡ t.domain
  pub same : fresh_of format u ≡ fresh_of format t
  pub told : AreTellable format u.domain u.turn.moves
  pub more : length u.turn.moves ≡ length t.turn.moves + 1
  pub few : length u.turn.moves ≤ size (body u)

-- or it made no move, since a contact waits that shows something or is the end
pub record Stood (format : Format) (t u : TaskView) : Type 0 where
  pub stands : ContactStands format u.domain u.pending
  pub domain : u.domain ≡ t.domain
  pub same : fresh_of format u ≡ fresh_of format t
  pub told : AreTellable format u.domain u.turn.moves

-- one of both
abbrev pub PassesOrStands : Format → TaskView → TaskView → Bool → Type 0
PassesOrStands format t u true = Stood format t u
PassesOrStands format t u false = HasPassed format t u
