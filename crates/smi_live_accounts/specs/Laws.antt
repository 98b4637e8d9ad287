-- What holds of what a manager keeps.
use Rattle.std.specs.Prelude.{◌≡◌, ℕ, List, Result, length}
use Rattle.sml_domain.specs.Completing.{Passed}
use Rattle.smi_journal_entries.specs.declared.entry.Entry.{Entry}
use Rattle.smi_world.specs.declared.step.Step.TheVariants as step
use Rattle.smi_world.specs.declared.step.Answer.{Answer}
use Rattle.smi_world.specs.declared.refusal.StepError.{StepError}
use Rattle.smi_world.specs.World.{Setup, World}
use Rattle.smi_world.specs.Steps.{StepsTo}
use Rattle.smi_world.specs.Runs.{IsReached}
use Rattle.smi_lines.specs.Answers.{answer_text}
use Rattle.smi_core.specs.Machines.{CoreView}
use Rattle.smi_live_accounts.specs.declared.requested.Requested.{Requested}
use Rattle.smi_live_accounts.specs.Accounts.{AccountsTell, AccountsView, IsNotedTo, MakesOneStep}
use Rattle.smi_live_accounts.specs.Requested.{IsRequested, RequestedAs}

-- what is kept says, after one step at most, what the entries before it say
abbrev pub OneStepIsNoted : Type 0
OneStepIsNoted =
    (m m2 : CoreView) (a : AccountsView) (first : ℕ) → MakesOneStep m m2 → first ≡ length m.world.journal
    → AccountsTell m.setup.domain m.world.journal a → IsNotedTo m2 first a

-- after one step at most, a world that is reached is followed by one that is
abbrev pub OneStepReaches : Type 0
OneStepReaches = (m m2 : CoreView) → MakesOneStep m m2 → IsReached m.setup m.world → IsReached m2.setup m2.world

-- a request that was made, and answered so: that it was accepted and waits, or that it was refused, is what was told
abbrev pub RequestsAreAnswered : Type 0
RequestsAreAnswered =
    (m : Setup) (w w2 : World) (k : ℕ) (x y : List ℕ) (passed : List Passed) (r : Result Answer StepError)
    (q : Requested) (text : List ℕ) (added : List Entry) → IsReached m w
    → StepsTo m w (step.Request k x y passed) r w2 → IsRequested m.domain k x r q
    → text ≡ answer_text m.domain (step.Request k x y passed) r added → RequestedAs m.domain w2.journal q text
