-- What a script plans.
use Rattle.std.specs.Prelude.{◌≡◌, ◌==◌, ◌&&◌, ◌<◌, ◌+◌, ℕ, suc, List, [], ◌∷◌, ◌++◌, length, map, fold, flat_map}
use Rattle.std.specs.Prelude.{Option, Some, None, slice_get, max, Vec, if◌then◌else◌}
use Rattle.std.specs.List.{slice_split}
use Rattle.std.specs.Option.{option_map_or, option_and_then}
use Rattle.std.specs.Arc.{arc_value}
use Rattle.std.specs.Global.{Global}
use Rattle.sml_domain.specs.Domain.{Domain}
use Rattle.smi_run.specs.declared.script.Line.{Line}
use Rattle.smi_run.specs.declared.script.Line.TheVariants as line
use Rattle.smi_run.specs.declared.script.Script.{Script}
use Rattle.smi_run_plan.specs.declared.lines.Deed.{Deed}
use Rattle.smi_run_plan.specs.declared.lines.Deed.TheVariants as deed
use Rattle.smi_run_plan.specs.declared.lines.Said.{Said}
use Rattle.smi_run_plan.specs.declared.lines.Said.TheVariants as said
use Rattle.smi_run_plan.specs.declared.device.ScriptDevice.{ScriptDevice}
use Rattle.smi_run_plan.specs.declared.plan.Plan.{Plan}
use Rattle.smi_run_plan.specs.Devices.{answer_to}
use Rattle.smi_run_plan.specs.Says.{LineSays}

-- ---- the text

-- the lines of a script, without their line feeds. What follows the last line feed is a line too
abbrev pub script_lines : List ℕ → List (List ℕ)
script_lines text = slice_split (λ b. b == 10) text

-- lines say these, one for one
abbrev pub LinesSay : Domain → List (List ℕ) → List Said → Type 0
LinesSay d [] [] = Unit {0}
LinesSay d [] (x ∷ xs) = ⊥
LinesSay d (line ∷ lines) [] = ⊥
LinesSay d (line ∷ lines) (x ∷ xs) = LineSays d line (Some x) × LinesSay d lines xs

-- the first line that is not a line of a script has this number, counted from 1
pub record IsFirstBad (d : Domain) (text : List ℕ) (n : ℕ) : Type 0 where
  pub before : List (List ℕ)
  pub line : List ℕ
  pub behind : List (List ℕ)
  pub saids : List Said
  pub split : script_lines text ≡ before ++ line ∷ behind
  pub good : LinesSay d before saids
  pub bad : LineSays d line None
  pub number : n ≡ length before + 1

-- ---- what lines say together

-- what a line says for a session: one thing that it does, or nothing
abbrev pub part_of : ℕ → Said → List Deed
part_of k said.Nothing = []
part_of k (said.Asks j x) = if j == k then x ∷ [] else []
part_of k (said.Answers o a s) = []

-- what a session does, in the order of the lines
abbrev pub parts_of : ℕ → List Said → List Deed
parts_of k saids = flat_map (part_of k) saids

-- the session that a line names, or 0
abbrev pub named_session : Said → ℕ
named_session said.Nothing = 0
named_session (said.Asks k x) = k
named_session (said.Answers o a s) = 0

-- how many sessions there are after one line more
abbrev pub more_sessions : ℕ → Said → ℕ
more_sessions n x = max n (named_session x)

-- how many sessions there are: up to the highest that a line names, and one at least
abbrev pub sessions_in : List Said → ℕ
sessions_in saids = fold more_sessions 1 saids

-- what a device of an object answers to an action after one line more
abbrev pub later_answer : ℕ → ℕ → Option ℕ → Said → Option ℕ
later_answer o a s said.Nothing = s
later_answer o a s (said.Asks k x) = s
later_answer o a s (said.Answers p b t) = if p == o && a == b then Some t else s

-- what the device of an object answers to an action: the state of the last line that says it
abbrev pub last_answer : ℕ → ℕ → List Said → Option ℕ
last_answer o a saids = fold (later_answer o a) None saids

-- ---- drafts and plans

-- what a line does, no matter which lines share its names
abbrev pub deed_of : Line → Deed
deed_of (line.Post o a passed) = deed.Post (arc_value o) (arc_value a) passed
deed_of (line.Kill o) = deed.Kill (arc_value o)

-- what a list of lines does, in order
abbrev pub deeds_of : Vec Line Global → List Deed
deeds_of v = map deed_of v.items

-- what the lists of sessions do at a place
abbrev pub deeds_at : List (Vec Line Global) → ℕ → List Deed
deeds_at lists i = option_map_or deeds_of (slice_get lists i) []

-- what a list of devices, one for each object, answers for an object to an action
abbrev pub answer_at : List ScriptDevice → ℕ → ℕ → Option ℕ
answer_at devices o a = option_and_then (λ x. answer_to x a) (slice_get devices o)

-- lists of sessions hold what lines say
pub record HoldSessions (saids : List Said) (lists : List (Vec Line Global)) : Type 0 where
  pub count : length lists ≡ sessions_in saids
  pub parts : (i : ℕ) → deeds_at lists i ≡ parts_of (suc i) saids

-- devices, one for each object, answer what lines say
pub record HoldAnswers (d : Domain) (saids : List Said) (devices : List ScriptDevice) : Type 0 where
  pub count : length devices ≡ length d.objects
  pub answers : (o a : ℕ) → o < length d.objects → answer_at devices o a ≡ last_answer o a saids

-- lists of sessions and devices hold what the lines of a text say
pub record HoldsText (d : Domain) (text : List ℕ) (lists : List (Vec Line Global))
    (devices : List ScriptDevice) : Type 0 where
  pub saids : List Said
  pub says : LinesSay d (script_lines text) saids
  pub sessions : HoldSessions saids lists
  pub answers : HoldAnswers d saids devices

-- lists of sessions and devices take what a line says
pub record PlanTakesLine (d : Domain) (line : List ℕ) (lists lists2 : List (Vec Line Global))
    (devices devices2 : List ScriptDevice) : Type 0 where
  pub said : Said
  pub says : LineSays d line (Some said)
  pub sessions : (saids : List Said) → HoldSessions saids lists → HoldSessions (saids ++ said ∷ []) lists2
  pub answers : (saids : List Said) → HoldAnswers d saids devices → HoldAnswers d (saids ++ said ∷ []) devices2

-- what a script does, in order
abbrev pub deeds_of_script : Script → List Deed
deeds_of_script s = deeds_of s.lines

-- what the scripts of a plan do at a place
abbrev pub planned_at : List Script → ℕ → List Deed
planned_at scripts i = option_map_or deeds_of_script (slice_get scripts i) []

-- a plan of what lines say: a script for each session, and a device for each object
pub record IsPlanOf (d : Domain) (saids : List Said) (p : Plan) : Type 0 where
  pub sessions : length p.scripts.items ≡ sessions_in saids
  pub scripts : (i : ℕ) → planned_at p.scripts.items i ≡ parts_of (suc i) saids
  pub devices : HoldAnswers d saids p.answers.devices.items

-- the lines of a text say something each, and this is their plan
pub record IsPlanOfText (d : Domain) (text : List ℕ) (p : Plan) : Type 0 where
  pub saids : List Said
  pub says : LinesSay d (script_lines text) saids
  pub plan : IsPlanOf d saids p
