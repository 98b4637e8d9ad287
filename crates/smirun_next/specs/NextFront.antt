-- The front of the log that follows the log of a manager.
use Rattle.std.specs.Prelude.{◌≡◌, ◌⊎◌, ℕ, Bool, List, length}
use Rattle.hex.specs.Hex.{encode_lower}
use Rattle.sha1.specs.Sha1.{sha1}
use Rattle.sml_domain.specs.Domain.{Domain}
use Rattle.smi_core.specs.Machines.{CoreView}
use Rattle.smi_log_front.specs.Front.{FrontView}
use Rattle.smi_log_front.specs.Suits.{FrontSuits}
use Rattle.smi_live_accounts.specs.Accounts.{AccountsView}
use Rattle.smi_live_carried.specs.TakingAlong.{AreTaken, NothingGoesAlong, all_counts_taken}
use Rattle.smi_outset_core.specs.Rests.{CoreIsDone}
use Rattle.smi_outset_core.specs.StandsNow.{IsOutsetOf}
use Rattle.smirun_next.specs.Kills.{all_front_kills, all_killed}

-- which objects were killed in a core
abbrev pub killed_in_core : CoreView → List Bool
killed_in_core core = all_killed core.world.journal (length core.setup.domain.objects)

-- a front says how all stands in a core, what goes along of what is kept, who was killed, and after which log it comes; the
-- first domain is as its canonical text declares it
pub record IsNextOf (d : Domain) (core : CoreView) (a : AccountsView) (canonical : List ℕ) (capacity : ℕ)
    (log : List ℕ) (f : FrontView) : Type 0 where
  pub of_domain : f.domain_sum ≡ encode_lower (sha1 canonical)
  pub room : f.capacity ≡ capacity
  pub outset : IsOutsetOf core.setup.domain core.world.journal f.outset
  pub counts : f.carried.counts ≡ all_counts_taken (killed_in_core core) a.fates.counts (length d.objects)
  pub names : AreTaken a.told a.fates.watched f.carried.names
  pub kills : f.kills ≡ all_front_kills core.world.journal (length core.setup.domain.objects)
  pub after_log : f.log_sum ≡ encode_lower (sha1 log)

-- so does one that suits the domain, and in the core all rests
pub record IsNextFront (d : Domain) (core : CoreView) (a : AccountsView) (canonical : List ℕ) (capacity : ℕ)
    (log : List ℕ) (f : FrontView) : Type 0 where
  pub rests : CoreIsDone core.setup.domain core.world
  pub is_next : IsNextOf d core a canonical capacity log f
  pub suits : FrontSuits d f

-- there is none: not all rests, or nothing goes along, or what says all this does not suit the domain
abbrev pub HasNoNext : Domain → CoreView → AccountsView → List ℕ → ℕ → List ℕ → Type 0
HasNoNext d core a canonical capacity log =
    (CoreIsDone core.setup.domain core.world → ⊥)
    ⊎ (NothingGoesAlong d (killed_in_core core) a
    ⊎ ((f : FrontView) × IsNextOf d core a canonical capacity log f × (FrontSuits d f → ⊥)))
