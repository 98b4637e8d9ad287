-- For whom a task waits.
use Rattle.std.specs.Prelude.{◌≡◌, ℕ, Bool, List, filter, not}
use Rattle.sml_domain.specs.Program.{Subject}
use Rattle.sml_domain.specs.Domain.{Domain}
use Rattle.smi_journal_entries.specs.declared.entry.Entry.{Entry}
use Rattle.smi_journal_entries.specs.Sets.{sets_after}
use Rattle.smi_journal_entries.specs.Words.{is_clear}
use Rattle.smi_interp.specs.Ahead.{AreReadNext}
use Rattle.smi_interp.specs.Expanded.{objects_by_names}
use Rattle.smi_interp.specs.Task.{TaskView}

-- whether an object is not clear for another
abbrev pub is_in_the_way : List Entry → ℕ → ℕ → Bool
is_in_the_way J o x = not (is_clear o x J)

-- those of some objects that are not clear for another, in their order
abbrev pub in_the_way : List Entry → ℕ → List ℕ → List ℕ
in_the_way J o objects = filter (is_in_the_way J o) objects

-- a task waits for these objects: those that the next `if` or `wait` names, by the members that sets have now, and that
-- are not clear for the task's object
pub record TaskWaitsFor (d : Domain) (J : List Entry) (t : TaskView) (objects : List ℕ) : Type 0 where
  pub names : List Subject
  pub next : AreReadNext t names
  pub are : objects ≡ in_the_way J t.turn.object (objects_by_names d (sets_after d J) names)
