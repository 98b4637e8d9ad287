-- Runs that continue, and their worlds.
use Rattle.std.proofs.Common.{◌≡◌, ◌≤◌, ℕ, List, [], ◌∷◌, ◌++◌, Result, length, take, refl, sym, subst}
use Rattle.std.proofs.lemmas.List.{take_all}
use Rattle.sml_domain.specs.Domain.{Domain}
use Rattle.sml_domain.specs.Sound.{IsSound}
use Rattle.smi_world.specs.declared.step.Step.{Step}
use Rattle.smi_world.specs.declared.step.Answer.{Answer}
use Rattle.smi_world.specs.declared.refusal.StepError.{StepError}
use Rattle.smi_world.specs.World.{Setup, World, opening}
use Rattle.smi_world.specs.Steps.{StepsTo, Run}
use Rattle.smi_world.specs.Runs.{IsReached, Reaches}

-- a run continues by one step
pub run_more : (m : Setup) (w : World) (ss : List Step) (rs : List (Result Answer StepError)) (w2 w3 : World) (s : Step) (r : Result Answer StepError) → Run m w ss rs w2 → StepsTo m w2 s r w3 → Run m w (ss ++ s ∷ []) (rs ++ r ∷ []) w3
run_more m w [] [] w2 w3 s r h last = (w3, subst (λ x. StepsTo m x s r w3) h last, refl)
run_more m w (t ∷ ss) (q ∷ rs) w2 w3 s r h last = (h.0, h.1, run_more m h.0 ss rs w2 w3 s r h.2 last)
run_more m w [] (q ∷ rs) w2 w3 s r h last = absurd h
run_more m w (t ∷ ss) [] w2 w3 s r h last = absurd h

-- a run that was made to the end of its steps reaches its world
pub reached : (m : Setup) (d : Domain) (steps : List Step) (k : ℕ) (answers : List (Result Answer StepError)) (w : World) → m.domain ≡ d → IsSound d → length steps ≤ k → Run m (opening m) (take k steps) answers w → Reaches m steps answers w
reached m d steps k answers w same sound long run = record {
  sound = subst IsSound (sym same) sound;
  run = subst (λ l. Run m (opening m) l answers w) (take_all k steps long) run;
}

-- and its world is reached
pub is_reached : (m : Setup) (d : Domain) (steps : List Step) (k : ℕ) (answers : List (Result Answer StepError)) (w : World) → m.domain ≡ d → IsSound d → length steps ≤ k → Run m (opening m) (take k steps) answers w → IsReached m w
is_reached m d steps k answers w same sound long run = record {
  steps = steps;
  answers = answers;
  reaches = reached m d steps k answers w same sound long run;
}
