-- Which kept tasks are looked at: those that may be able to continue. Each other one is listed with an object that
-- holds it.
use Rattle.std.specs.Prelude.{◌≡◌, ◌<◌, ℕ, Bool, true, false, List, [], Option, Some, None, IfSome, length, slice_set}
use Rattle.sml_domain.specs.Domain.{Domain}
use Rattle.smi_journal_entries.specs.declared.entry.Entry.{Entry}
use Rattle.smi_journal_entries.specs.Sets.{Sets, sets_after}
use Rattle.smi_journal_entries.specs.Words.{is_clear, is_killed}
use Rattle.smi_interp.specs.declared.contact.Contact.{Contact}
use Rattle.smi_interp.specs.declared.contact.Contact.TheVariants as named
use Rattle.smi_interp.specs.Expanded.{all_by_names}
use Rattle.smi_interp.specs.Task.{TaskView, LeftNames}
use Rattle.smi_board.specs.declared.looking.Look.{Look}
use Rattle.smi_board.specs.declared.looking.Look.TheVariants.{Goes, Held, Nobody}
use Rattle.smi_board.specs.declared.starting.Started.{Started}
use Rattle.smi_board.specs.declared.starting.Started.TheVariants.{Run, Perform, Skipped}
use Rattle.smi_board.specs.Boards.{kept_at}
use Rattle.smi_board.specs.Holders.{holder_of}
use Rattle.smi_board.specs.Rings.{is_in_ring}
use Rattle.smi_board.specs.Turns.{can_go_on}

-- one of some objects that is not clear for another
pub record IsHolder (J : List Entry) (o : ℕ) (objects : List ℕ) (x : ℕ) : Type 0 where
  pub among : is_in_ring x objects ≡ true
  pub busy : is_clear o x J ≡ false

-- the objects that the names that are read stand for, each as often as it is named
abbrev pub all_read : Domain → Sets → Option Contact → List ℕ
all_read d sets (Some (named.Read names)) = all_by_names d sets names
all_read d sets (Some (named.Send wanted)) = []
all_read d sets (Some (named.Change add member set)) = []
all_read d sets (Some (named.End s)) = []
all_read d sets (Some (named.Local p v)) = []
all_read d sets None = []

-- an object holds the task of another: the task waits to read it, and it is not clear
abbrev pub HoldsTask : Domain → List Entry → ℕ → TaskView → ℕ → Type 0
HoldsTask d J o t x = IsHolder J o (all_read d (sets_after d J) t.pending) x

-- the task that is kept of an object is looked at next, or an object that it is listed with holds it; if no task is
-- kept, the object is not listed, unless it is killed
abbrev pub IsPlaced : Domain → List Entry → ℕ → Option TaskView → Option ℕ → Bool → Type 0
IsPlaced d J o None holder looks = is_killed o J ≡ false → holder ≡ None
IsPlaced d J o (Some t) None looks = looks ≡ true
IsPlaced d J o (Some t) (Some x) looks = (looks ≡ false) × HoldsTask d J o t x

-- what a task waits for comes next in it
abbrev pub AsksNext : TaskView → Type 0
AsksNext t = IfSome t.pending (LeftNames t)

-- so is each task that is kept, and asks for what comes next in it
pub record ArePlaced (d : Domain) (J : List Entry) (kept : List (Option TaskView)) (candidates : List ℕ)
    (holders : List (Option ℕ)) : Type 0 where
  pub each : (o : ℕ) → IsPlaced d J o (kept_at kept o) (holder_of holders o) (is_in_ring o candidates)
  pub asks : (o : ℕ) → IfSome (kept_at kept o) AsksNext

-- the objects that the names stand for that a kept task waits to read
abbrev pub all_waiting : Domain → Sets → Option TaskView → List ℕ
all_waiting d sets None = []
all_waiting d sets (Some t) = all_read d sets t.pending

-- an object holds a task that is kept
abbrev pub IsHeldBy : Domain → List Entry → ℕ → Option TaskView → ℕ → Type 0
IsHeldBy d J o None x = ⊥
IsHeldBy d J o (Some t) x = (x < length d.objects) × HoldsTask d J o t x

-- what a look at the task that is kept of an object found
abbrev pub IsFound : Domain → List Entry → ℕ → Option TaskView → Look → Type 0
IsFound d J o t Goes = can_go_on d o J t ≡ true
IsFound d J o t (Held x) = IsHeldBy d J o t x
IsFound d J o t Nobody = t ≡ None

-- tasks that are kept, without that of an object whose task continues
abbrev pub kept_without : List (Option TaskView) → Option ℕ → List (Option TaskView)
kept_without kept None = kept
kept_without kept (Some o) = slice_set kept o None

-- where those that are listed with an object are freed, one of them is looked at and listed no more, and any other is
-- as it was
pub record IsFreed (x : ℕ) (holder holder2 : Option ℕ) (looks looks2 : Bool) : Type 0 where
  pub freed : holder ≡ Some x → (holder2 ≡ None) × (looks2 ≡ true)
  pub other : (holder ≡ Some x → ⊥) → (holder2 ≡ holder) × (looks2 ≡ looks)

-- whether a start was skipped
abbrev pub is_skipped : Started → Bool
is_skipped (Run t) = false
is_skipped (Perform a args) = false
is_skipped Skipped = true
