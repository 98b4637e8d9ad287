-- The steps that a manager makes by itself, and that they end.
use Rattle.std.specs.Prelude.{◌≡◌, ◌↔◌, ◌+◌, ◌*◌, ◌≤◌, ℕ, max, List, [], ◌∷◌, length, Some, Result, Ok, Err}
use Rattle.sml_domain.specs.Program.{Program, Nothing, SetThen, SendThen, SendNoneThen, IfThen, EndIn, TerminateIn}
use Rattle.sml_domain.specs.Program.{WaitThen, ChangeThen}
use Rattle.sml_domain.specs.Domain.{Domain}
use Rattle.sml_domain.specs.Lookups.{program_at}
use Rattle.sml_domain.specs.Trees.{trees_of}
use Rattle.smi_meaning.specs.Environment.{Env}
use Rattle.smi_meaning.specs.Meaning.{Move}
use Rattle.smi_meaning.specs.Laws.{MeaningBegins}
use Rattle.smi_world.specs.declared.step.Step.{Step}
use Rattle.smi_world.specs.declared.step.Step.TheVariants as step
use Rattle.smi_world.specs.declared.step.Answer.{Answer}
use Rattle.smi_world.specs.declared.step.Answer.TheVariants as answer
use Rattle.smi_world.specs.declared.refusal.StepError.{StepError}
use Rattle.smi_world.specs.World.{Setup, World, opening}
use Rattle.smi_world.specs.Steps.{Run}

-- ---- own steps

-- a step that a manager makes by itself: a start or a go
abbrev pub IsOwnStep : Step → Type 0
IsOwnStep (step.Start x) = Unit {0}
IsOwnStep (step.Go x) = Unit {0}
IsOwnStep (step.Request k x y args) = ⊥
IsOwnStep (step.Answer x y) = ⊥
IsOwnStep (step.Fault x) = ⊥
IsOwnStep (step.Kill x k) = ⊥

-- an answer that changes nothing: a refusal, or that an action still waits
abbrev pub IsIdle : Result Answer StepError → Type 0
IsIdle (Err e) = Unit {0}
IsIdle (Ok answer.Still) = Unit {0}
IsIdle (Ok (answer.Accepted n args)) = ⊥
IsIdle (Ok (answer.Entries first count)) = ⊥
IsIdle (Ok (answer.Changed p v)) = ⊥

-- 1 for an answer that something changed, 0 for one that changes nothing
abbrev pub change_of : Result Answer StepError → ℕ
change_of (Err e) = 0
change_of (Ok answer.Still) = 0
change_of (Ok (answer.Accepted n args)) = 1
change_of (Ok (answer.Entries first count)) = 1
change_of (Ok (answer.Changed p v)) = 1

-- 1 for a start or a go that changes something, 0 for any other step
abbrev pub own_step : Step → Result Answer StepError → ℕ
own_step (step.Start x) r = change_of r
own_step (step.Go x) r = change_of r
own_step (step.Request k x y args) r = 0
own_step (step.Answer x y) r = 0
own_step (step.Fault x) r = 0
own_step (step.Kill x k) r = 0

-- how many starts and gos changed something
abbrev pub own_steps : List Step → List (Result Answer StepError) → ℕ
own_steps [] answers = 0
own_steps (s ∷ steps) [] = 0
own_steps (s ∷ steps) (r ∷ answers) = own_step s r + own_steps steps answers

-- exactly the own steps that change something count
abbrev pub OwnStepsCount : Type 0
OwnStepsCount = (s : Step) (r : Result Answer StepError) → (own_step s r ≡ 1) ↔ (IsOwnStep s × (¬ (IsIdle r)))

-- ---- they end

-- no action of a domain begins with more moves than this
abbrev pub AreMovesWithin : Domain → ℕ → Type 0
AreMovesWithin d n =
    (o s a : ℕ) (b : Program) (env : Env) (made : List Move)
    → program_at d o s a ≡ Some b → MeaningBegins d b env made → length made ≤ n

-- With any steps from outside in between, the own steps that change something end. Each start pays for 2 * n + 2 of
-- them: itself; one that begins to wait and one that moves, for each move that its action may make; and one that ends
-- the action. Each takes one away from what is paid for and not yet spent, and no step from outside adds to that.
abbrev pub OwnStepsEnd : Type 0
OwnStepsEnd =
    (m : Setup) (n : ℕ) → AreMovesWithin m.domain n
    → (steps : List Step) (answers : List (Result Answer StepError)) (w : World) → Run m (opening m) steps answers w
    → own_steps steps answers ≤ m.max_starts * (2 * n + 2)

-- ---- there is a bound of moves

-- the most moves of a way through a block: each instruction is one move, and an `if` goes the longer of its two ways
abbrev pub longest_way : Program → ℕ
longest_way Nothing = 0
longest_way (EndIn s) = 0
longest_way (TerminateIn s) = 0
longest_way (SetThen p x rest) = 1 + longest_way rest
longest_way (SendThen target a args rest) = 1 + longest_way rest
longest_way (SendNoneThen set rest) = 1 + longest_way rest
longest_way (IfThen f p q rest) = 1 + max (longest_way p) (longest_way q) + longest_way rest
longest_way (WaitThen names rest) = 1 + longest_way rest
longest_way (ChangeThen add member set rest) = 1 + longest_way rest

-- the most of a way through any of these blocks
abbrev pub longest_of : List Program → ℕ
longest_of [] = 0
longest_of (b ∷ bs) = max (longest_way b) (longest_of bs)

-- the most of a way through any block of a domain
abbrev pub most_moves : Domain → ℕ
most_moves d = longest_of (trees_of d.blocks)

-- no action of a domain begins with more moves than that
abbrev pub MovesAreFew : Type 0
MovesAreFew = (d : Domain) → AreMovesWithin d (most_moves d)
