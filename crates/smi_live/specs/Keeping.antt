-- What a manager keeps beside its core: the lines of the manager's own steps.
use Rattle.std.specs.List.{slice_index_or}
use Rattle.std.specs.Prelude.{◌≡◌, ◌≢◌, ◌<◌, ◌≤◌, ◌+◌, ◌⊎◌, length, ℕ, List, Err, MatchOption, Ok, Option, Result, Some}
use Rattle.sml_domain.specs.Completing.{Passed}
use Rattle.sml_domain.specs.Domain.{Domain}
use Rattle.smi_world.specs.declared.step.Step.{Step}
use Rattle.smi_world.specs.declared.step.Step.TheVariants as step
use Rattle.smi_world.specs.declared.step.Answer.{Answer}
use Rattle.smi_world.specs.declared.step.Answer.TheVariants as answer
use Rattle.smi_world.specs.Steps.{StepsTo}
use Rattle.smi_world_rest.specs.OwnSteps.{IsOwnStep}
use Rattle.smi_lines.specs.declared.line.LineError.{LineError}
use Rattle.smi_lines.specs.declared.line.LineError.TheVariants as fault
use Rattle.smi_lines.specs.Line.{LineReads}
use Rattle.smi_core.specs.Machines.{CoreView}
use Rattle.smi_live_accounts.specs.declared.requested.Requested.{Requested}
use Rattle.smi_live_accounts.specs.Requested.{RequestedAs}
use Rattle.smi_live_once.specs.declared.table.Verdict.TheVariants as once
use Rattle.smi_live_once.specs.Forms.{IsMarked, IsUnmarked}
use Rattle.smi_live_once.specs.Making.{Keeper}
use Rattle.smi_live_once.specs.Tables.{verdict_in}
use Rattle.smi_live.specs.Limiting.{line_for_bad, logged, room_after}
use Rattle.smi_live.specs.Managing.{IsGoOf, IsIdleAt, IsIdleObject, IsMadeAt, IsStartOf, ManagerView}

-- a line and the step that it asks for
pub record Said : Type 0 where
  pub line : List ℕ
  pub step : Step

-- the two lines of an object
pub record OwnPair : Type 0 where
  pub start : Said
  pub go : Said

-- they are lines of their steps, and these are the start and the go of the object
pub record IsOwnOf (d : Domain) (o : ℕ) (own : OwnPair) : Type 0 where
  pub starts : IsStartOf d o own.start.step
  pub goes : IsGoOf d o own.go.step

-- the lines of the first n objects are such lines
pub record AreOwn (d : Domain) (own : List OwnPair) (n : ℕ) : Type 0 where
  pub count : length own ≡ n
  pub each : (o : ℕ) (lines : OwnPair) → o < length own → lines ≡ slice_index_or own o lines → IsOwnOf d o lines

-- of the objects from one place on to before another, this was the first at which a step could be made
pub record FirstOf (m : ManagerView) (first end : ℕ) (kept : List ℕ) (m2 : ManagerView) : Type 0 where
  pub line : List ℕ
  pub keeps : kept ≡ logged line
  pub object : ℕ
  pub from : first ≤ object
  pub to : object < end
  pub made : IsMadeAt m.core line object m2.core
  pub before : (x : ℕ) → first ≤ x → x < object → IsIdleObject m.core x
  pub next : m2.turn ≡ object + 1
  pub leaves : m2.room ≡ room_after m.room kept

-- a line is read as no step
abbrev pub IsNoStep : Result (Option Step) LineError → Type 0
IsNoStep r = (s : Step) → r ≢ Ok (Some s)

-- a step is no request
abbrev pub IsNoRequest : Step → Type 0
IsNoRequest s = (k : ℕ) (x y : List ℕ) (args : List Passed) → s ≢ step.Request k x y args

-- a step is a request
abbrev pub IsSomeRequest : Step → Type 0
IsSomeRequest s = (k : ℕ) × (x : List ℕ) × (y : List ℕ) × (args : List Passed) × (s ≡ step.Request k x y args)

-- what a step asked for, which was made so: nothing if it is no request
abbrev pub IsRequestedIn : CoreView → Step → Option Requested → List ℕ → Type 0
IsRequestedIn m s q text =
    MatchOption q (IsNoRequest s)
    (λ q. IsSomeRequest s × RequestedAs m.setup.domain m.world.journal q text)

-- ---- lines of a log

-- a line asks for a request
abbrev pub AsksRequest : List ℕ → Type 0
AsksRequest line = (s : Step) × LineReads line (Ok (Some s)) × IsSomeRequest s

-- a line asks for no request
abbrev pub AsksNoRequest : List ℕ → Type 0
AsksNoRequest line =
    (r : Result (Option Step) LineError) × LineReads line r × (r ≢ Err fault.Memory)
    × ((s : Step) → r ≡ Ok (Some s) → IsNoRequest s)

-- a line is read: as no step only if it is the line that is kept of such ones; and if it is a start or a go, it was
-- made: it was neither refused nor waited on
abbrev pub IsMadeAgain : CoreView → List ℕ → CoreView → Type 0
IsMadeAgain m line m2 =
    (r : Result (Option Step) LineError) × LineReads line r
    × (r ≡ Err fault.BadLine → line ≡ line_for_bad)
    × ((s : Step) → r ≡ Ok (Some s) → IsOwnStep s
    → (a : Answer) × StepsTo m.setup m.world s (Ok a) m2.world × (a ≢ answer.Still))

-- a line is a start or a go that changes nothing
abbrev pub IsIdleLine : CoreView → List ℕ → Type 0
IsIdleLine m line = (s : Step) × LineReads line (Ok (Some s)) × IsOwnStep s × IsIdleAt m s

-- a line is no step, and is not the line that is kept of such ones
abbrev pub IsOtherBad : List ℕ → Type 0
IsOtherBad line = LineReads line (Err fault.BadLine) × (line ≢ line_for_bad)

-- a manager may have written a line there: it has no mark, and a start or a go of it was made; or its mark is new, and
-- it is a request
abbrev pub MayBeLogged : Keeper CoreView → List ℕ → Keeper CoreView → Type 0
MayBeLogged k line k2 =
    (IsUnmarked line × IsMadeAgain k.core line k2.core)
    ⊎ ((name : List ℕ) × (number : ℕ) × IsMarked line name number × (verdict_in k.told name number ≡ once.New)
    × AsksRequest line)

-- no manager would have written a line there: it is a start or a go that changes nothing, or no step, or its mark is
-- not new, or it is no request that has a mark
abbrev pub IsNeverLogged : Keeper CoreView → List ℕ → Type 0
IsNeverLogged k line =
    (IsUnmarked line × (IsIdleLine k.core line ⊎ IsOtherBad line))
    ⊎ ((name : List ℕ) × (number : ℕ) × IsMarked line name number
    × ((verdict_in k.told name number ≢ once.New) ⊎ AsksNoRequest line))
