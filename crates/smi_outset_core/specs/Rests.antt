-- Whether anything is under way in a core.
use Rattle.std.specs.Prelude.{◌≡◌, ◌<◌, ◌⊎◌, ℕ, true, false, length}
use Rattle.sml_domain.specs.Domain.{Domain}
use Rattle.smi_journal_entries.specs.Words.{is_killed, is_open}
use Rattle.smi_world.specs.World.{World, waiting}

-- at an object no action is open, and no request waits unless the object was killed
pub record IsDoneAt (w : World) (o : ℕ) : Type 0 where
  pub closed : is_open o w.journal ≡ false
  pub done : (waiting o w ≡ 0) ⊎ (is_killed o w.journal ≡ true)

-- so it is at each object of a domain
abbrev pub CoreIsDone : Domain → World → Type 0
CoreIsDone d w = (o : ℕ) → o < length d.objects → IsDoneAt w o
