-- Which log a manager continues.
use Rattle.std.specs.Prelude.{◌≡◌, ◌≢◌, ◌++◌, ◌∷◌, [], ℕ, List, length, nat_eq, take, true}
use Rattle.std.specs.List.{starts_with}
use Rattle.sml_domain.specs.Domain.{Domain}
use Rattle.smi_world.specs.World.{Setup, opening}
use Rattle.smi_core.specs.Machines.{CoreView}
use Rattle.smi_carried.specs.Carried.{OnceView}
use Rattle.smi_log_front.specs.declared.first_line.LogVersion.{LogVersion}
use Rattle.smi_live.specs.Logs.{LogOutputs}
use Rattle.smi_live_carried.specs.Recalling.{recalled_table}
use Rattle.smi_live_once.specs.Making.{Keeper}
use Rattle.smi_live_once.specs.Tables.{OnceTold}
use Rattle.smi_log_begin.specs.Begins.{LogBegins}
use Rattle.smirun_live.specs.FirstLine.{IsHeadOf}
use Rattle.smirun_live.specs.Reading.{HasNoFeed, IsOfWholeLines}

-- the first line of a log, of which this many bytes are whole lines, is this one; without a whole line it begins so
pub record BeginsAs (first log : List ℕ) (whole : ℕ) : Type 0 where
  pub begun : whole ≢ 0 → (rest : List ℕ) × (log ≡ first ++ 10 ∷ rest)
  pub torn : whole ≡ 0 → starts_with nat_eq first log ≡ true

-- a core in the opening world, and this was told last
abbrev pub begun_with : Setup → List OnceTold → Keeper CoreView
begun_with m told = record { core = record { setup = m; world = opening m }; told = told }

-- a manager is that which the whole lines of a log lead to from the opening world, where this was told last
pub record ContinuesWith (m : Setup) (told : List OnceTold) (first log : List ℕ) (k : Keeper CoreView) : Type 0 where
  pub whole : List ℕ
  pub torn : List ℕ
  pub parts : log ≡ whole ++ torn
  pub ended : IsOfWholeLines whole
  pub last : HasNoFeed torn
  pub begins : BeginsAs first log (length whole)
  pub out : List ℕ
  pub made : LogOutputs (begun_with m told) whole out k

-- a log of the domain of a text begins so: with this domain, these names of the logs before, and this first line
pub record BeginsLog (text log : List ℕ) (capacity : ℕ) (d : Domain) (names : List OnceView) (first : List ℕ) : Type 0 where
  pub version : LogVersion
  pub begins : LogBegins text log version d names
  pub head : IsHeadOf text version capacity first

-- a manager continues a log of the domain of a text, from what that begins with
pub record ContinuesLog (text log : List ℕ) (m : Setup) (k : Keeper CoreView) : Type 0 where
  pub names : List OnceView
  pub first : List ℕ
  pub begun : BeginsLog text log m.capacity m.domain names first
  pub after : ContinuesWith m (recalled_table names) first log k
