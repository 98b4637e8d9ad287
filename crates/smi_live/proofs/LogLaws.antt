-- The log of a manager is a schedule that writes the same, but for answers.
use Rattle.std.proofs.Common.{◌≡◌, ap, ℕ, List, [], ◌∷◌}
use Rattle.sml_text.specs.Lines.{Outputs}
use Rattle.smi_core.specs.Machines.{CoreView}
use Rattle.smi_core.specs.Output.{LineWrites}
use Rattle.smi_live_loop.specs.Turns.{Turn, log_text, texts_in}
use Rattle.smi_live_loop.proofs.Turning.{runs_outputs}
use Rattle.smi_live_once.specs.Making.{KeeperDoes}
use Rattle.smi_live_once.proofs.Again.{goes_on}
use Rattle.smi_live_once.proofs.Writing.{logs_write}
use Rattle.smi_live.specs.Managing.{AllRest, ManagerView, ManagerTakesLine, TakesTurn, keeper_of, makes_line}
use Rattle.smi_live.specs.Logs.{LogsWriteAgain, Manages, ResumedGoesOn}

same_outputs : (m : ManagerView) (texts : List (List ℕ)) (out : List ℕ) (m2 : ManagerView) → Outputs makes_line m texts out m2 → Outputs (KeeperDoes LineWrites) (keeper_of m) texts out (keeper_of m2)
same_outputs m [] out m2 h = (h.0, ap keeper_of h.1)
same_outputs m (t ∷ texts) out m2 h = (keeper_of h.0, h.1, h.2, h.3, same_outputs h.0 texts h.2 m2 h.4, h.5)

turns_do : (m : ManagerView) (turns : List Turn) (out : List ℕ) (m2 : ManagerView) → Manages m turns out m2 → Outputs (KeeperDoes LineWrites) (keeper_of m) (texts_in turns) out (keeper_of m2)
turns_do m turns out m2 h = same_outputs m (texts_in turns) out m2 (runs_outputs makes_line TakesTurn ManagerTakesLine AllRest m turns out m2 h)

-- in a core whose empty line writes nothing
module _ (nothing : (m : CoreView) → LineWrites m [] [] m) (only : (m : CoreView) (out : List ℕ) (m2 : CoreView) → LineWrites m [] out m2 → (out ≡ []) × (m2 ≡ m)) where
  pub write_again : LogsWriteAgain
  write_again m turns out m2 h = logs_write LineWrites nothing (keeper_of m) (texts_in turns) out (keeper_of m2) (turns_do m turns out m2 h)

  pub go_on_again : ResumedGoesOn
  go_on_again k text out m h turns out2 m2 g = goes_on LineWrites only k text out (keeper_of m) h (log_text (texts_in turns)) out2 (keeper_of m2) (write_again m turns out2 m2 g)
