-- What holds of every log of a manager.
use Rattle.std.specs.Prelude.{◌≡◌, ℕ, List, [], ◌∷◌, ◌++◌, Some, map}
use Rattle.sml_text.specs.Lines.{Outputs, lines_of}
use Rattle.smi_world.specs.Runs.{IsReached}
use Rattle.smi_core.specs.Machines.{CoreView}
use Rattle.smi_core.specs.Output.{LineWrites}
use Rattle.smi_core.specs.ScheduleLaws.{OutputOf}
use Rattle.smi_live_loop.specs.Turns.{RunsTurns, Turn, heard_in, log_text, texts_in}
use Rattle.smi_live_once.specs.Laws.{NumbersGrow}
use Rattle.smi_live_once.specs.Making.{HasAnswers, IsAnsweredBy, Keeper, KeeperWrites, LogWrites}
use Rattle.smi_live_once.specs.Tables.{OnceTold, told_to}
use Rattle.smi_live.specs.Managing.{AllRest, ManagerView, ManagerTakesLine, TakesTurn, keeper_of, makes_line}

-- turns lead a manager to another, and write this
abbrev pub Manages : ManagerView → List Turn → List ℕ → ManagerView → Type 0
Manages m turns out m2 = RunsTurns makes_line TakesTurn ManagerTakesLine AllRest m turns out m2

-- what the text of a log writes from a core and what was told last there, and what it leads to
abbrev pub LogOutputs : Keeper CoreView → List ℕ → List ℕ → Keeper CoreView → Type 0
LogOutputs k text plain k2 = Outputs (KeeperWrites LineWrites) k (lines_of text) plain k2

-- what turns write is what the text of their log writes, as a schedule, but for what is told beside: answers to those
-- who ask once, and that a line is not kept; and the log leads to the same core and to the same that was told last
abbrev pub LogsWriteAgain : Type 0
LogsWriteAgain =
    (m : ManagerView) (turns : List Turn) (out : List ℕ) (m2 : ManagerView) → Manages m turns out m2
    → LogWrites LineWrites (keeper_of m) (log_text (texts_in turns)) out (keeper_of m2)

-- if a log of whole lines was made again, and turns after it, that log and the log of the turns are one log, which
-- writes both outputs but for what is told beside, and leads to the same core and the same that was told
abbrev pub ResumedGoesOn : Type 0
ResumedGoesOn =
    (k : Keeper CoreView) (text out : List ℕ) (m : ManagerView) → LogOutputs k (text ++ 10 ∷ []) out (keeper_of m)
    → (turns : List Turn) (out2 : List ℕ) (m2 : ManagerView) → Manages m turns out2 m2
    → (plain : List ℕ) × HasAnswers plain out2
    × LogOutputs k (text ++ 10 ∷ log_text (texts_in turns)) (out ++ plain) (keeper_of m2)

-- a log leads to one core, and to one that was told last: what is made again from it is what was there
abbrev pub OneKeeper : Type 0
OneKeeper =
    (k : Keeper CoreView) (text out other : List ℕ) (k2 k3 : Keeper CoreView) → LogOutputs k text out k2
    → LogOutputs k text other k3 → (out ≡ other) × (k2 ≡ k3)

-- a log is a schedule: what it writes is what the schedule writes
abbrev pub LogsAreSchedules : Type 0
LogsAreSchedules =
    (k : Keeper CoreView) (text out : List ℕ) (k2 : Keeper CoreView) → LogOutputs k text out k2
    → OutputOf k.core text out k2.core

-- of two lines of a log that are marked with one name, the later has the greater number: each is made once
abbrev pub EachMadeOnce : Type 0
EachMadeOnce =
    (k : Keeper CoreView) (text out : List ℕ) (k2 : Keeper CoreView) → LogOutputs k text out k2
    → NumbersGrow (lines_of text)

-- what is told again is what the line of the log wrote that is marked so, where the lines before it had led
abbrev pub ToldAsMade : Type 0
ToldAsMade =
    (c : CoreView) (text out : List ℕ) (k2 : Keeper CoreView)
    → LogOutputs (record { core = c; told = [] }) text out k2 → (name : List ℕ) (t : OnceTold)
    → told_to k2.told name ≡ Some t
    → IsAnsweredBy LineWrites (record { core = c; told = [] }) (lines_of text) out t

-- turns lead from a world that is reached by steps to one that is
abbrev pub ManagersReach : Type 0
ManagersReach =
    (m : ManagerView) (turns : List Turn) (out : List ℕ) (m2 : ManagerView) → Manages m turns out m2
    → IsReached m.core.setup m.core.world → IsReached m2.core.setup m2.core.world

-- if the same was heard, the same turns were made: log, output and manager are the same
abbrev pub SameHeardSameLog : Type 0
SameHeardSameLog =
    (m : ManagerView) (turns turns2 : List Turn) (out out2 : List ℕ) (m2 m3 : ManagerView)
    → Manages m turns out m2 → Manages m turns2 out2 m3 → map heard_in turns ≡ map heard_in turns2
    → (turns ≡ turns2) × (out ≡ out2) × (m2 ≡ m3)
