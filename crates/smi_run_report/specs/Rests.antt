-- What a run leaves that has nothing more to do.
use Rattle.std.specs.Prelude.{◌≡◌, ◌<◌, ◌⊎◌, ℕ, true, false, List, [], length}
use Rattle.sml_domain.specs.Domain.{Domain}
use Rattle.sml_domain.specs.Lookups.{associated_at}
use Rattle.smi_journal_entries.specs.declared.entry.Entry.{Entry}
use Rattle.smi_journal_entries.specs.Words.{is_open, is_killed, waits_at}
use Rattle.smi_mail.specs.Drains.{Final, final_at}

-- no action is open at an object, or it is logical and the last entry of its open action is a wait
abbrev pub IsResting : Domain → List Entry → ℕ → Type 0
IsResting d J o = is_open o J ≡ true → (associated_at d o ≡ false) × (waits_at o J ≡ true)

-- so it is at each object
abbrev pub IsAtRest : Domain → List Entry → Type 0
IsAtRest d J = (o : ℕ) → o < length d.objects → IsResting d J o

-- nothing is left at an object, or an action is open there, or it is killed
abbrev pub IsStopped : List Entry → List Final → ℕ → Type 0
IsStopped J end o = ((final_at end o).left ≡ []) ⊎ (is_open o J ≡ true) ⊎ (is_killed o J ≡ true)

-- so it is at each object: all that is left is at objects that are open or killed
abbrev pub IsLeftAtStopped : Domain → List Entry → List Final → Type 0
IsLeftAtStopped d J end = (o : ℕ) → o < length d.objects → IsStopped J end o
