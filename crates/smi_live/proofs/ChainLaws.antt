-- Logs of managers that follow one another.
use Rattle.std.proofs.Common.{◌≡◌, ap, refl, subst, ℕ, List, [], ◌∷◌, ◌++◌, flat_map}
use Rattle.sml_text.specs.Lines.{Outputs, lines_of}
use Rattle.smi_core.specs.Machines.{CoreView}
use Rattle.smi_core.specs.Output.{LineWrites}
use Rattle.smi_live_once.specs.Carrying.{Chain, ChainsGrow, LogLines, lines_in}
use Rattle.smi_live_once.specs.Laws.{NumbersGrow}
use Rattle.smi_live_once.specs.Making.{Keeper}
use Rattle.smi_live_once.proofs.Answered.{answered_since}
use Rattle.smi_live_once.proofs.Writing.{told_alone}
use Rattle.smi_live.specs.Chains.{EachOnceOverLogs, KeepersChain, ToldSinceBegun}

pub told_since_begun : ToldSinceBegun
told_since_begun k text out k2 h name t e = answered_since LineWrites k (lines_of text) out k2 h name t e

-- the lines of the logs, and what they wrote
abbrev logs_of : (k : Keeper CoreView) (texts : List (List ℕ)) → KeepersChain k texts → List LogLines
logs_of k [] h = []
logs_of k (text ∷ texts) h = record { lines = lines_of text; out = h.0 } ∷ logs_of h.2 texts h.5

chain_of : (k : Keeper CoreView) (texts : List (List ℕ)) (h : KeepersChain k texts) → Chain k.told (logs_of k texts h)
chain_of k [] h = tt
chain_of k (text ∷ texts) h =
    (h.1.told, h.2.told, told_alone LineWrites k (lines_of text) h.0 h.1 h.3, h.4, chain_of h.2 texts h.5)

same_lines : (k : Keeper CoreView) (texts : List (List ℕ)) (h : KeepersChain k texts) → flat_map lines_in (logs_of k texts h) ≡ flat_map lines_of texts
same_lines k [] h = refl
same_lines k (text ∷ texts) h = ap (λ l. lines_of text ++ l) (same_lines h.2 texts h.5)

pub each_once : ChainsGrow → EachOnceOverLogs
each_once law k texts h = subst NumbersGrow (same_lines k texts h) (law k.told (logs_of k texts h) (chain_of k texts h))
