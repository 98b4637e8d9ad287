-- What a manager keeps of what it did.
use Rattle.std.specs.Prelude.{◌≡◌, ◌≤◌, ◌⊎◌, ℕ, List, All, Option, Result, Some, length, map, option_map, slice_get, take}
use Rattle.sml_domain.specs.declared.value.Value.{Value}
use Rattle.sml_domain.specs.Domain.{Domain}
use Rattle.smi_journal_entries.specs.declared.entry.Entry.{Entry}
use Rattle.smi_journal_entries.specs.declared.entry.Sender.TheVariants.{Operator}
use Rattle.smi_journal_entries.specs.Words.{all_starts}
use Rattle.smi_world.specs.declared.step.Step.{Step}
use Rattle.smi_world.specs.declared.step.Answer.{Answer}
use Rattle.smi_world.specs.declared.refusal.StepError.{StepError}
use Rattle.smi_world.specs.Steps.{StepsTo}
use Rattle.smi_lines.specs.Answers.{accept_text, refused_text}
use Rattle.smi_core.specs.Machines.{CoreView}
use Rattle.smi_live_once.specs.Carrying.{past_text}
use Rattle.smi_live_once.specs.Tables.{OnceTold}
use Rattle.smi_request_fates.specs.declared.counts.Counts.{Counts}
use Rattle.smi_request_fates.specs.declared.fate.Stands.{Stands}
use Rattle.smi_request_fates.specs.Kept.{Answered, Asked, FatesTell, FatesView, IsOfCounted, IsPast, WasAccepted, WasRefused, watched_request}

-- what was told last to each name, counts and last requests, and how many actions were started
pub record AccountsView : Type 0 where
  pub told : List OnceTold
  pub fates : FatesView
  pub starts : ℕ

-- how an object stands, as it is kept
abbrev pub stands_kept : AccountsView → ℕ → Option Stands
stands_kept a o = option_map (λ (c : Counts). record { state = c.state; ended = c.ended }) (slice_get a.fates.counts o)

-- this was told of an accepted request: the line of its acceptance
pub record IsAcceptOf (d : Domain) (a : Asked) (answer : List ℕ) : Type 0 where
  pub session : ℕ
  pub sender : a.sender ≡ Operator session
  pub action : ℕ
  pub args : List Value
  pub text : answer ≡ accept_text d session a.object a.number action args

-- this was told of a refused one: the line of a refusal
abbrev pub IsSomeRefusal : List ℕ → Type 0
IsSomeRefusal answer = (word : List ℕ) × (answer ≡ refused_text word)

-- this is told of one that a log before had: what became of it
abbrev pub IsSomePast : List ℕ → Type 0
IsSomePast answer = (what : List ℕ) × (answer ≡ past_text what)

-- this was told of a request that was answered so
abbrev pub IsToldOf : Answered → Domain → Asked → List ℕ → Type 0
IsToldOf WasAccepted d a answer = IsAcceptOf d a answer
IsToldOf (WasRefused stood) d a answer = IsSomeRefusal answer
IsToldOf (IsPast stood) d a answer = IsSomePast answer

-- this was told of a request
abbrev pub IsAnswerTo : Domain → Asked → List ℕ → Type 0
IsAnswerTo d a answer = IsToldOf a.answered d a answer

-- what was told last to each name was told of the request at its place
pub record ArePaired (d : Domain) (told : List OnceTold) (asked : List Asked) : Type 0 where
  pub count : length asked ≡ length told
  pub each :
      (p : ℕ) (t : OnceTold) (a : Asked) → slice_get told p ≡ Some t → slice_get asked p ≡ Some a
      → IsAnswerTo d a t.answer

-- all of it is what the journal says
pub record AccountsTell (d : Domain) (J : List Entry) (a : AccountsView) : Type 0 where
  pub tells : FatesTell d J a.fates
  pub count : length a.fates.counts ≡ length d.objects
  pub known : All (IsOfCounted (length d.objects)) J
  pub paired : ArePaired d a.told (map watched_request a.fates.watched)
  pub all : a.starts ≡ length (all_starts J)

-- it is what the first entries of a core's journal say
pub record IsNotedTo (m : CoreView) (first : ℕ) (a : AccountsView) : Type 0 where
  pub within : first ≤ length m.world.journal
  pub tells : FatesTell m.setup.domain (take first m.world.journal) a.fates
  pub count : length a.fates.counts ≡ length m.setup.domain.objects
  pub known : All (IsOfCounted (length m.setup.domain.objects)) m.world.journal
  pub paired : ArePaired m.setup.domain a.told (map watched_request a.fates.watched)
  pub all : a.starts ≡ length (all_starts (take first m.world.journal))

-- a core made one step at most
abbrev pub MakesOneStep : CoreView → CoreView → Type 0
MakesOneStep m m2 =
    (m2.setup ≡ m.setup)
    × ((m2.world ≡ m.world)
    ⊎ ((s : Step) × (r : Result Answer StepError) × StepsTo m.setup m.world s r m2.world))
