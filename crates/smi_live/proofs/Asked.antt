-- What a step asked for.
use Rattle.std.proofs.Common.{◌≡◌, sym, subst, ℕ, List, IfNone, IfSome, Option, Some, None, Result}
use Rattle.sml_domain.specs.Completing.{Passed}
use Rattle.sml_domain.specs.Domain.{Domain}
use Rattle.smi_journal_entries.specs.declared.entry.Entry.{Entry}
use Rattle.smi_world.specs.declared.step.Step.{Step}
use Rattle.smi_world.specs.declared.step.Step.TheVariants as step
use Rattle.smi_world.specs.declared.step.Answer.{Answer}
use Rattle.smi_world.specs.declared.refusal.StepError.{StepError}
use Rattle.smi_world.specs.World.{Setup, World}
use Rattle.smi_world.specs.Steps.{StepsTo}
use Rattle.smi_world.specs.Runs.{IsReached}
use Rattle.smi_lines.specs.Answers.{answer_text}
use Rattle.smi_core.specs.Machines.{CoreView}
use Rattle.smi_live_accounts.specs.declared.requested.Requested.{Requested}
use Rattle.smi_live_accounts.specs.Laws.{RequestsAreAnswered}
use Rattle.smi_live_accounts.specs.Requested.{IsRequested, RequestedAs}
use Rattle.smi_live.specs.Keeping.{IsNoRequest, IsRequestedIn}

-- a request of a session, and how it was answered
abbrev pub IsAskedOf : Domain → Step → Result Answer StepError → Requested → Type 0
IsAskedOf d s r q = (k : ℕ) × (x : List ℕ) × (y : List ℕ) × (args : List Passed) × (s ≡ step.Request k x y args) × IsRequested d k x r q

asked_of : RequestsAreAnswered → (m : Setup) (w : World) (s : Step) (r : Result Answer StepError) (w2 : World) (q : Requested) (text : List ℕ) (added : List Entry) → IsReached m w → StepsTo m w s r w2
    → text ≡ answer_text m.domain s r added → IsAskedOf m.domain s r q → RequestedAs m.domain w2.journal q text
asked_of law m w s r w2 q text added reached steps told is =
    law m w w2 is.0 is.1 is.2 is.3 r q text added reached (subst (λ z. StepsTo m w z r w2) is.4 steps) is.5 (subst (λ z. text ≡ answer_text m.domain z r added) is.4 told)

asked_in : RequestsAreAnswered → (m : Setup) (w : World) (s : Step) (r : Result Answer StepError) (w2 : World) (q : Option Requested) (text : List ℕ) (added : List Entry) → IsReached m w → StepsTo m w s r w2
    → text ≡ answer_text m.domain s r added → IfSome q (IsAskedOf m.domain s r) → IfNone q (IsNoRequest s) → IsRequestedIn (record { setup = m; world = w2 }) s q text
asked_in law m w s r w2 None text added reached steps told some none = none
asked_in law m w s r w2 (Some q) text added reached steps told some none =
    ((some.0, some.1, some.2, some.3, some.4), asked_of law m w s r w2 q text added reached steps told some)

-- what a step asked for, and what was told
pub requested_in : RequestsAreAnswered → (a b : CoreView) (s : Step) (r : Result Answer StepError) (q : Option Requested) (text : List ℕ) (added : List Entry) → IsReached a.setup a.world → StepsTo a.setup a.world s r b.world → b.setup ≡ a.setup
    → text ≡ answer_text b.setup.domain s r added → IfSome q (IsAskedOf b.setup.domain s r) → IfNone q (IsNoRequest s) → IsRequestedIn b s q text
requested_in law a b s r q text added reached steps setup told some none =
    asked_in law b.setup a.world s r b.world q text added (subst (λ m. IsReached m a.world) (sym setup) reached) (subst (λ m. StepsTo m a.world s r b.world) (sym setup) steps) told some none
