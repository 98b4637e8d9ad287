-- What a manager does, as a machine of lines.
use Rattle.std.specs.Prelude.{◌≡◌, ◌≢◌, ◌<◌, ◌≤◌, ◌+◌, ◌++◌, ◌∷◌, ◌⊎◌, [], length, min, ℕ, List, Option, Some, None, Result, Ok, Err, codes, true, false}
use Rattle.sml_domain.specs.Domain.{Domain}
use Rattle.sml_domain.specs.Lookups.{object_named}
use Rattle.smi_world.specs.declared.step.Step.{Step}
use Rattle.smi_world.specs.declared.step.Step.TheVariants as step
use Rattle.smi_world.specs.declared.step.Answer.{Answer}
use Rattle.smi_world.specs.declared.step.Answer.TheVariants as answer
use Rattle.smi_world.specs.declared.refusal.StepError.{StepError}
use Rattle.smi_world.specs.World.{World}
use Rattle.smi_world.specs.Steps.{StepsTo}
use Rattle.smi_world_rest.specs.OwnSteps.{IsIdle, IsOwnStep}
use Rattle.smi_lines.specs.Answers.{refused_text}
use Rattle.smi_lines.specs.declared.line.LineError.{LineError}
use Rattle.smi_lines.specs.declared.line.LineError.TheVariants as fault
use Rattle.smi_lines.specs.Line.{LineReads}
use Rattle.smi_core.specs.Machines.{CoreView}
use Rattle.smi_core.specs.Output.{LineWrites}
use Rattle.smi_live_once.specs.declared.table.Verdict.{Verdict}
use Rattle.smi_live_once.specs.declared.table.Verdict.TheVariants as once
use Rattle.smi_live_once.specs.Forms.{IsAsked, IsMarked, IsUnmarked, is_barred_line, marked_text, told_text}
use Rattle.smi_live_once.specs.Making.{Keeper, KeeperDoes, limit_text}
use Rattle.smi_live_once.specs.Tables.{OnceTold, told_to, verdict_in}
use Rattle.smi_live.specs.Limiting.{HasNoStartLeft, HasRoomFor, HasStartsLeft, KeepsOrTells, LacksRoomFor, line_for_bad, logged, room_after}

-- ---- a manager

-- a manager: its core, the object whose turn is next, what was told last to each of those who ask once, and how many
-- bytes its log may still take, if it has one
pub record ManagerView : Type 0 where
  pub core : CoreView
  pub turn : ℕ
  pub told : List OnceTold
  pub room : Option ℕ

-- its core, and what was told last
abbrev pub keeper_of : ManagerView → Keeper CoreView
keeper_of m = record { core = m.core; told = m.told }

-- a line was made, kept with its line feed and told, with the answer to its mark beside; or nothing was made, and an
-- answer was told, that a line is not kept, or nothing
abbrev pub makes_line : ManagerView → List ℕ → List ℕ → ManagerView → Type 0
makes_line m kept out m2 = KeeperDoes LineWrites (keeper_of m) kept out (keeper_of m2)

-- ---- lines from outside

-- what is kept of a line that is read so: the line, or a line that is no step if the line is no step or is one that the
-- manager makes by itself
abbrev pub StandsFor : Result (Option Step) LineError → List ℕ → List ℕ → Type 0
StandsFor (Err fault.BadLine) asked kept = kept ≡ line_for_bad
StandsFor (Err fault.Memory) asked kept = ⊥
StandsFor (Ok None) asked kept = kept ≡ asked
StandsFor (Ok (Some (step.Start x))) asked kept = kept ≡ line_for_bad
StandsFor (Ok (Some (step.Go x))) asked kept = kept ≡ line_for_bad
StandsFor (Ok (Some (step.Request k x y args))) asked kept = kept ≡ asked
StandsFor (Ok (Some (step.Answer x y))) asked kept = kept ≡ asked
StandsFor (Ok (Some (step.Fault x))) asked kept = kept ≡ asked
StandsFor (Ok (Some (step.Kill x k))) asked kept = kept ≡ asked

-- what is kept of a request that is to be made once, where its marked line is read so: the line, or a line that is no
-- step if the line is no request
abbrev pub StandsForOnce : Result (Option Step) LineError → List ℕ → List ℕ → Type 0
StandsForOnce (Err fault.BadLine) asked kept = kept ≡ line_for_bad
StandsForOnce (Err fault.Memory) asked kept = ⊥
StandsForOnce (Ok None) asked kept = kept ≡ line_for_bad
StandsForOnce (Ok (Some (step.Start x))) asked kept = kept ≡ line_for_bad
StandsForOnce (Ok (Some (step.Go x))) asked kept = kept ≡ line_for_bad
StandsForOnce (Ok (Some (step.Request k x y args))) asked kept = kept ≡ asked
StandsForOnce (Ok (Some (step.Answer x y))) asked kept = kept ≡ line_for_bad
StandsForOnce (Ok (Some (step.Fault x))) asked kept = kept ≡ line_for_bad
StandsForOnce (Ok (Some (step.Kill x k))) asked kept = kept ≡ line_for_bad

-- a line from outside is read, and this line stands for it
pub record IsTakenAs (asked line : List ℕ) : Type 0 where
  pub read : Result (Option Step) LineError
  pub reads : LineReads asked read
  pub stands : StandsFor read asked line

-- the line that stands for it is kept; or there is no room or start left for it
pub record TakesPlain (room : Option ℕ) (m : CoreView) (asked kept out : List ℕ) : Type 0 where
  pub line : List ℕ
  pub taken : IsTakenAs asked line
  pub limits : KeepsOrTells room m taken.read line kept out

-- a line is refused whatever it asks, which is kept, if there is room for that
abbrev pub TakesRefused : Option ℕ → List ℕ → List ℕ → Type 0
TakesRefused room kept out =
    (HasRoomFor room line_for_bad × (kept ≡ logged line_for_bad))
    ⊎ (LacksRoomFor room line_for_bad × (kept ≡ []) × (out ≡ limit_text))

-- a request that is new is read with its mark, and this line stands for it
pub record IsMarkedAs (marked line : List ℕ) : Type 0 where
  pub read : Result (Option Step) LineError
  pub reads : LineReads marked read
  pub stands : StandsForOnce read marked line

-- the line that stands for it is kept
pub record TakesNew (marked kept : List ℕ) : Type 0 where
  pub line : List ℕ
  pub taken : IsMarkedAs marked line
  pub keeps : kept ≡ logged line

-- nothing is made, nothing is kept, and that is told as the answer
pub record TellsOnly (k : Keeper CoreView) (name : List ℕ) (number : ℕ) (answer kept out : List ℕ)
    (k2 : Keeper CoreView) : Type 0 where
  pub keeps : kept ≡ []
  pub stays : k2 ≡ k
  pub tells : out ≡ told_text name number answer

-- the same is told again
pub record TellsAgain (k : Keeper CoreView) (name : List ℕ) (number : ℕ) (kept out : List ℕ) (k2 : Keeper CoreView) :
    Type 0 where
  pub last : OnceTold
  pub is_last : told_to k.told name ≡ Some last
  pub only : TellsOnly k name number last.answer kept out k2

-- a request that is new is read with its mark, if there is room for that line and a start left; otherwise it is not
-- looked at
abbrev pub TakesFirst :
    Option ℕ → Keeper CoreView → List ℕ → ℕ → List ℕ → List ℕ → List ℕ → Keeper CoreView → Type 0
TakesFirst room k name number marked kept out k2 =
    (HasRoomFor room marked × HasStartsLeft k.core × TakesNew marked kept)
    ⊎ ((LacksRoomFor room marked ⊎ HasNoStartLeft k.core) × TellsOnly k name number limit_text kept out k2)

-- what is done about a request that is to be made once, by the verdict on its number
abbrev pub TakesOnce :
    Verdict → Option ℕ → Keeper CoreView → List ℕ → ℕ → List ℕ → List ℕ → List ℕ → Keeper CoreView → Type 0
TakesOnce once.New room k name number request kept out k2 =
    TakesFirst room k name number (marked_text request name number) kept out k2
TakesOnce once.Again room k name number request kept out k2 = TellsAgain k name number kept out k2
TakesOnce once.Old room k name number request kept out k2 =
    TellsOnly k name number (refused_text (codes "Old")) kept out k2
TakesOnce once.TooMany room k name number request kept out k2 =
    TellsOnly k name number (refused_text (codes "TooManyNames")) kept out k2

-- a line asks for a request once
pub record TakesAsked (room : Option ℕ) (k : Keeper CoreView) (asked kept out : List ℕ) (k2 : Keeper CoreView) :
    Type 0 where
  pub name : List ℕ
  pub number : ℕ
  pub request : List ℕ
  pub asks : IsAsked asked name number request
  pub takes : TakesOnce (verdict_in k.told name number) room k name number request kept out k2

-- a line asks for nothing once
abbrev pub IsNotAsked : List ℕ → Type 0
IsNotAsked asked = (name : List ℕ) (number : ℕ) (request : List ℕ) → IsAsked asked name number request → ⊥

-- a line that asks for nothing once: one with a mark is refused, since marks are the manager's own
abbrev pub TakesOther : Option ℕ → CoreView → List ℕ → List ℕ → List ℕ → Type 0
TakesOther room m asked kept out =
    ((name : List ℕ) × (number : ℕ) × IsMarked asked name number × TakesRefused room kept out)
    ⊎ (IsUnmarked asked × TakesPlain room m asked kept out)

-- a line that may come from outside: a request that is to be made once, or any other
abbrev pub TakesOutside : Option ℕ → Keeper CoreView → List ℕ → List ℕ → List ℕ → Keeper CoreView → Type 0
TakesOutside room k asked kept out k2 =
    TakesAsked room k asked kept out k2 ⊎ (IsNotAsked asked × TakesOther room k.core asked kept out)

-- a line from outside: one that may not come is refused
abbrev pub TakesLine : Option ℕ → Keeper CoreView → List ℕ → List ℕ → List ℕ → Keeper CoreView → Type 0
TakesLine room k asked kept out k2 =
    ((is_barred_line asked ≡ true) × TakesRefused room kept out)
    ⊎ ((is_barred_line asked ≡ false) × TakesOutside room k asked kept out k2)

-- a manager takes a line from outside so, and the turn stays
pub record ManagerTakesLine (m : ManagerView) (asked kept out : List ℕ) (m2 : ManagerView) : Type 0 where
  pub takes : TakesLine m.room (keeper_of m) asked kept out (keeper_of m2)
  pub stays : m2.turn ≡ m.turn
  pub leaves : m2.room ≡ room_after m.room kept

-- ---- the manager's own steps

-- the line of a step of the manager's own
abbrev pub IsOwnLine : Step → List ℕ → Type 0
IsOwnLine (step.Start x) line = line ≡ codes "start " ++ x
IsOwnLine (step.Go x) line = line ≡ codes "go " ++ x
IsOwnLine (step.Request k x y args) line = ⊥
IsOwnLine (step.Answer x y) line = ⊥
IsOwnLine (step.Fault x) line = ⊥
IsOwnLine (step.Kill x k) line = ⊥

-- the step is the start of an object
abbrev pub IsStartOf : Domain → ℕ → Step → Type 0
IsStartOf d o (step.Start x) = object_named d x ≡ Some o
IsStartOf d o s = ⊥

-- the step is the go of an object
abbrev pub IsGoOf : Domain → ℕ → Step → Type 0
IsGoOf d o (step.Go x) = object_named d x ≡ Some o
IsGoOf d o s = ⊥

-- the step is the start or the go of an object
abbrev pub IsAtObject : Domain → ℕ → Step → Type 0
IsAtObject d o s = IsStartOf d o s ⊎ IsGoOf d o s

-- a step changes nothing, however it is answered
abbrev pub IsIdleAt : CoreView → Step → Type 0
IsIdleAt m s = (r : Result Answer StepError) (w2 : World) → StepsTo m.setup m.world s r w2 → IsIdle r

-- all rests: every start and every go is refused, or waits on
abbrev pub AllRest : ManagerView → Type 0
AllRest m = (s : Step) → IsOwnStep s → IsIdleAt m.core s

-- the line is that of this step, a start or a go, which is neither refused nor waits on
pub record IsMade (m : CoreView) (line : List ℕ) (s : Step) (m2 : CoreView) : Type 0 where
  pub reads : LineReads line (Ok (Some s))
  pub own : IsOwnLine s line
  pub gives : Answer
  pub steps : StepsTo m.setup m.world s (Ok gives) m2.world
  pub moves : gives ≢ answer.Still

-- a line is that of the start or of the go of an object, which is neither refused nor waits on
pub record IsMadeAt (m : CoreView) (line : List ℕ) (o : ℕ) (m2 : CoreView) : Type 0 where
  pub step : Step
  pub of : IsAtObject m.setup.domain o step
  pub made : IsMade m line step m2

-- neither the start nor the go of an object changes anything
pub record IsIdleObject (m : CoreView) (o : ℕ) : Type 0 where
  pub start : Step
  pub go : Step
  pub starts : IsStartOf m.setup.domain o start
  pub goes : IsGoOf m.setup.domain o go
  pub no_start : IsIdleAt m start
  pub no_go : IsIdleAt m go

-- the object that a round begins with: the one whose turn is next, if there is one
abbrev pub first_in : ManagerView → ℕ
first_in m = min m.turn (length m.core.setup.domain.objects)

-- one object comes before another, where the objects are gone round from a first one on
abbrev pub IsBefore : ℕ → ℕ → ℕ → Type 0
IsBefore first x o = (first ≤ x × ((x < o) ⊎ (o < first))) ⊎ ((x < o) × (o < first))

-- the line is that of a start or a go that is neither refused nor waits on, at an object before which no other has one;
-- and the turn of the object after it is next
pub record TakesTurn (m : ManagerView) (kept : List ℕ) (m2 : ManagerView) : Type 0 where
  pub line : List ℕ
  pub keeps : kept ≡ logged line
  pub object : ℕ
  pub within : object < length m.core.setup.domain.objects
  pub made : IsMadeAt m.core line object m2.core
  pub before :
      (x : ℕ) → x < length m.core.setup.domain.objects → IsBefore (first_in m) x object → IsIdleObject m.core x
  pub next : m2.turn ≡ object + 1
  pub leaves : m2.room ≡ room_after m.room kept
