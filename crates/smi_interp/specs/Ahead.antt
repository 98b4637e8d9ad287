-- What the next `if` or `wait` of an action names, looked up past the `set`s that come before it.
use Rattle.std.specs.Prelude.{ℕ, suc, ◌≡◌, List, [], Option, Some, None}
use Rattle.sml_domain.specs.Program.{Subject, Program, Nothing, SetThen, SendThen, SendNoneThen, IfThen, EndIn, TerminateIn, WaitThen, ChangeThen}
use Rattle.smi_meaning.specs.Conditions.{asked_in}
use Rattle.smi_interp.specs.Task.{TaskView, HasLeft}

-- what the `if` or `wait` with which a block begins names; None for a `set`, and no names for anything else
abbrev pub names_first : Program → Option (List Subject)
names_first (SetThen p x rest) = None
names_first (IfThen f p q rest) = Some (asked_in f)
names_first (WaitThen names rest) = Some names
names_first (SendThen target a args rest) = Some []
names_first (SendNoneThen set rest) = Some []
names_first (EndIn s) = Some []
names_first (TerminateIn s) = Some []
names_first (ChangeThen add member set rest) = Some []
names_first Nothing = Some []

-- what the next `if` or `wait` of a block names, where `set`s alone come before it; else no names
abbrev pub names_ahead : Program → List Subject
names_ahead (SetThen p x rest) = names_ahead rest
names_ahead (IfThen f p q rest) = asked_in f
names_ahead (WaitThen names rest) = names
names_ahead (SendThen target a args rest) = []
names_ahead (SendNoneThen set rest) = []
names_ahead (EndIn s) = []
names_ahead (TerminateIn s) = []
names_ahead (ChangeThen add member set rest) = []
names_ahead Nothing = []

-- how many `set`s a block begins with
abbrev pub sets_ahead : Program → ℕ
sets_ahead (SetThen p x rest) = suc (sets_ahead rest)
sets_ahead (IfThen f p q rest) = 0
sets_ahead (WaitThen names rest) = 0
sets_ahead (SendThen target a args rest) = 0
sets_ahead (SendNoneThen set rest) = 0
sets_ahead (EndIn s) = 0
sets_ahead (TerminateIn s) = 0
sets_ahead (ChangeThen add member set rest) = 0
sets_ahead Nothing = 0

-- these are the names of the next `if` or `wait` of a task, where `set`s alone come before it; else there are none
pub record AreReadNext (t : TaskView) (names : List Subject) : Type 0 where
  pub left : Program
  pub leads : HasLeft t left
  pub are : names ≡ names_ahead left
