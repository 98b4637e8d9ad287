-- Names that logs before had, and logs that follow one another.
use Rattle.std.specs.Prelude.{◌≡◌, ℕ, List, [], ◌∷◌, ◌++◌, codes, flat_map, map}
use Rattle.sml_text.specs.Lines.{Outputs}
use Rattle.smi_live_once.specs.Laws.{NumbersGrow}
use Rattle.smi_live_once.specs.Tables.{NotesTold, OnceTold}

-- what is told again of a request that a log before had: what became of it
abbrev pub past_text : List ℕ → List ℕ
past_text what = codes "past " ++ (what ++ codes "\n")

-- a name, and its last number
pub record LastNumber : Type 0 where
  pub name : List ℕ
  pub number : ℕ

-- those of what was told last to it
abbrev pub last_number : OnceTold → LastNumber
last_number t = record { name = t.name; number = t.number }

-- the same names have the same last numbers, whatever they were told
abbrev pub SameNumbers : List OnceTold → List OnceTold → Type 0
SameNumbers ts us = map last_number ts ≡ map last_number us

-- the lines of a log, and what they wrote
pub record LogLines : Type 0 where
  pub lines : List (List ℕ)
  pub out : List ℕ

-- logs, one after another: where the first begins this was told last, and each of the others begins with the names and
-- the last numbers with which the one before ended
abbrev pub Chain : List OnceTold → List LogLines → Type 0
Chain ts [] = Unit {0}
Chain ts (log ∷ logs) =
    (ended : List OnceTold) × (begun : List OnceTold) × Outputs NotesTold ts log.lines log.out ended
    × SameNumbers ended begun × Chain begun logs

-- the lines of a log
abbrev pub lines_in : LogLines → List (List ℕ)
lines_in log = log.lines

-- of two lines of any logs of a chain that are marked with one name, the later has the greater number: each number of a
-- name is made once at most
abbrev pub ChainsGrow : Type 0
ChainsGrow = (ts : List OnceTold) (logs : List LogLines) → Chain ts logs → NumbersGrow (flat_map lines_in logs)
