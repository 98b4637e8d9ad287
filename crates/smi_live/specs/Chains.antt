-- What holds of the logs of managers that begin with what logs before had.
use Rattle.std.specs.Prelude.{◌≡◌, ◌⊎◌, ℕ, List, [], ◌∷◌, Some, flat_map}
use Rattle.sml_text.specs.Lines.{lines_of}
use Rattle.smi_core.specs.Machines.{CoreView}
use Rattle.smi_core.specs.Output.{LineWrites}
use Rattle.smi_live_once.specs.Carrying.{SameNumbers}
use Rattle.smi_live_once.specs.Laws.{NumbersGrow}
use Rattle.smi_live_once.specs.Making.{IsAnsweredBy, Keeper}
use Rattle.smi_live_once.specs.Tables.{OnceTold, told_to}
use Rattle.smi_live.specs.Logs.{LogOutputs}

-- what is told again was told where the log began, or is what the line of the log wrote that is marked so, where the
-- lines before it had led
abbrev pub ToldSinceBegun : Type 0
ToldSinceBegun =
    (k : Keeper CoreView) (text out : List ℕ) (k2 : Keeper CoreView) → LogOutputs k text out k2
    → (name : List ℕ) (t : OnceTold) → told_to k2.told name ≡ Some t
    → (told_to k.told name ≡ Some t) ⊎ IsAnsweredBy LineWrites k (lines_of text) out t

-- logs of managers, one after another, the first of which began so: each of the others begins, in whatever core, with
-- the names and the last numbers with which the one before ended
abbrev pub KeepersChain : Keeper CoreView → List (List ℕ) → Type 0
KeepersChain k [] = Unit {0}
KeepersChain k (text ∷ texts) =
    (out : List ℕ) × (ended : Keeper CoreView) × (begun : Keeper CoreView) × LogOutputs k text out ended
    × SameNumbers ended.told begun.told × KeepersChain begun texts

-- of two lines of any logs of a chain that are marked with one name, the later has the greater number: each number of a
-- name is made once at most
abbrev pub EachOnceOverLogs : Type 0
EachOnceOverLogs =
    (k : Keeper CoreView) (texts : List (List ℕ)) → KeepersChain k texts → NumbersGrow (flat_map lines_of texts)
