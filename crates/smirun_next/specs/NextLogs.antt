-- The log that follows another.
use Rattle.std.specs.Prelude.{◌≡◌, ℕ, List, [], Option, None, Some}
use Rattle.sml_domain.specs.Domain.{Domain}
use Rattle.sml_load.specs.Texts.{IsDomainOfText}
use Rattle.smi_core.specs.Machines.{CoreView}
use Rattle.smi_carried.specs.declared.carried.CarriedCounts.{CarriedCounts}
use Rattle.smi_log_front.specs.declared.first_line.LogVersion.{LogVersion}
use Rattle.smi_log_front.specs.declared.first_line.LogVersion.TheVariants.{One, Two}
use Rattle.smi_log_front.specs.Front.{FrontView}
use Rattle.smi_log_front.specs.FrontText.{front_text}
use Rattle.smi_live_accounts.specs.Accounts.{AccountsTell, AccountsView}
use Rattle.smi_live_carried.specs.OverLogs.{accounts_over}
use Rattle.smi_live_once.specs.Making.{Keeper}
use Rattle.smi_log_begin.specs.Begins.{HasFront, version_of_log}
use Rattle.smirun_commands.specs.Printed.{IsPrintOf}
use Rattle.smirun_live.specs.Continuing.{ContinuesLog}
use Rattle.smirun_live.specs.Reading.{IsOfWholeLines}
use Rattle.smirun_next.specs.declared.next_text.NextLog.{NextLog}
use Rattle.smirun_next.specs.declared.next_text.NextLog.TheVariants.{Begins, Restless}
use Rattle.smirun_next.specs.NextFront.{HasNoNext, IsNextFront}

-- how many requests wait at an object at most in the next log, if that is said, or as many as in the one before
abbrev pub next_capacity : Option ℕ → ℕ → ℕ
next_capacity None capacity = capacity
next_capacity (Some wanted) capacity = wanted

-- the counts of the logs before one of this version: those of its front, or none where it follows no other
abbrev pub AreCountsBy : Domain → List ℕ → List CarriedCounts → LogVersion → Type 0
AreCountsBy declared log counts One = counts ≡ []
AreCountsBy declared log counts Two = (f : FrontView) × HasFront declared f log × (counts ≡ f.carried.counts)

-- the counts of the logs before a log, as that itself says them
abbrev pub AreCountsBefore : Domain → List ℕ → List CarriedCounts → Type 0
AreCountsBefore declared log counts = AreCountsBy declared log counts (version_of_log log)

-- what a keeper has over all logs: what its journal says, and was told last, after what its log began with
pub record IsOverLogs (declared : Domain) (log : List ℕ) (k : Keeper CoreView) (over : AccountsView) : Type 0 where
  pub before : List CarriedCounts
  pub of_log : AreCountsBefore declared log before
  pub kept : AccountsView
  pub told : kept.told ≡ k.told
  pub tells : AccountsTell k.core.setup.domain k.core.world.journal kept
  pub both : over ≡ accounts_over before kept

-- a text is that of a front which follows the log of a keeper
pub record FollowsKeeper (declared : Domain) (k : Keeper CoreView) (canonical : List ℕ) (capacity : ℕ)
    (log next : List ℕ) : Type 0 where
  pub over : AccountsView
  pub kept : IsOverLogs declared log k over
  pub front : FrontView
  pub is_next : IsNextFront declared k.core over canonical capacity log front
  pub says : next ≡ front_text declared front

-- there is no front that follows the log of a keeper
abbrev pub KeeperHasNoNext : Domain → Keeper CoreView → List ℕ → ℕ → List ℕ → Type 0
KeeperHasNoNext declared k canonical capacity log =
    (over : AccountsView) × IsOverLogs declared log k over
    × HasNoNext declared k.core over canonical capacity log

-- what begins after a keeper is the text of its front; something does not rest only where there is none
abbrev pub MakesNext : Domain → Keeper CoreView → List ℕ → ℕ → List ℕ → NextLog → Type 0
MakesNext declared k canonical capacity log (Begins next) = FollowsKeeper declared k canonical capacity log next.items
MakesNext declared k canonical capacity log (Restless lines) = KeeperHasNoNext declared k canonical capacity log

-- what comes of a log of the domain of a text that is to be followed: its lines are whole, and a manager continues it
pub record IsNextLog (text log : List ℕ) (wanted : Option ℕ) (next : NextLog) : Type 0 where
  pub declared : Domain
  pub of_text : IsDomainOfText text declared
  pub canonical : List ℕ
  pub printed : IsPrintOf text canonical
  pub keeper : Keeper CoreView
  pub continues : ContinuesLog text log keeper.core.setup keeper
  pub whole : IsOfWholeLines log
  pub makes : MakesNext declared keeper canonical (next_capacity wanted keeper.core.setup.capacity) log next
