-- What a line of a script says.
use Rattle.std.specs.Prelude.{◌≡◌, ◌<◌, ℕ, Bool, true, false, List, [], ◌∷◌, length, Option, Some, None, Result, Ok}
use Rattle.std.specs.Prelude.{Err, codes, if◌then◌else◌}
use Rattle.std.specs.Option.{option_and_then}
use Rattle.sml_text.specs.declared.source.Source.TheVariants as source
use Rattle.sml_text.specs.Tokens.{Lexeme, Token, TokensOf, BadTokenOf}
use Rattle.sml_domain.specs.Domain.{Domain}
use Rattle.sml_domain.specs.Lookups.{object_named, action_named, state_named}
use Rattle.sml_domain.specs.Names.{same_name}
use Rattle.smi_world.specs.declared.step.Step.{Step}
use Rattle.smi_world.specs.declared.step.Step.TheVariants as step
use Rattle.smi_lines.specs.declared.line.LineError.{LineError}
use Rattle.smi_lines.specs.Line.{name_in, step_asked, lexemes, is_line}
use Rattle.smi_run_plan.specs.declared.lines.Deed.TheVariants as deed
use Rattle.smi_run_plan.specs.declared.lines.Said.{Said}
use Rattle.smi_run_plan.specs.declared.lines.Said.TheVariants as said

-- ---- lines of sessions

-- what a step says in a script: a request or a kill of a session says something there, other steps do not
abbrev pub said_by : Step → Option Said
said_by (step.Request k o a passed) = Some (said.Asks k (deed.Post o a passed))
said_by (step.Start o) = None
said_by (step.Go o) = None
said_by (step.Answer o s) = None
said_by (step.Fault o) = None
said_by (step.Kill o k) = Some (said.Asks k (deed.Kill o))

-- ---- lines of devices

-- whether a word is `device`
abbrev pub is_device : Option (List ℕ) → Bool
is_device None = false
is_device (Some word) = same_name word (codes "DEVICE")

-- an answer, where the domain has all three names
abbrev pub numbered_answer : Option ℕ → Option ℕ → Option ℕ → Option Said
numbered_answer (Some o) (Some a) (Some s) = Some (said.Answers o a s)
numbered_answer o a s = None

-- the answer by the names of the object, the action and the state
abbrev pub device_answer : Domain → Option (List ℕ) → Option (List ℕ) → Option (List ℕ) → Option Said
device_answer d o a s =
    numbered_answer (option_and_then (object_named d) o) (option_and_then (action_named d) a) (option_and_then
    (state_named d) s)

-- device OBJECT ACTION STATE
abbrev pub device_in : Domain → List Lexeme → Option Said
device_in d (word ∷ o ∷ a ∷ s ∷ []) = if is_device (name_in word) then device_answer d (name_in o) (name_in a)
    (name_in s) else None
device_in d words = None

-- ---- lines

-- what tokens say that are read as a step, as nothing, or as an error: then they may be a line of a device
abbrev pub said_as : Domain → List Lexeme → Result (Option Step) LineError → Option Said
said_as d words (Ok None) = Some said.Nothing
said_as d words (Ok (Some s)) = said_by s
said_as d words (Err e) = device_in d words

-- what the tokens of a line say, or None if they are not a line of a script
abbrev pub said_by_tokens : Domain → List Lexeme → Option Said
said_by_tokens d words = said_as d words (step_asked words)

-- what bytes say that are a line of tokens with a meaning, or that are no line, or have no tokens
pub record TellsLine (meaning : List Lexeme → Option Said) (line : List ℕ) (r : Option Said) : Type 0 where
  pub unfit : is_line line ≡ false → r ≡ None
  pub tokens : is_line line ≡ true → (ts : List Token) → TokensOf source.Line line ts → r ≡ meaning (lexemes ts)
  pub bad : is_line line ≡ true → (place : ℕ) → BadTokenOf source.Line line place → r ≡ None

-- what a line says, or None if it is not a line of a script
abbrev pub LineSays : Domain → List ℕ → Option Said → Type 0
LineSays d line r = TellsLine (said_by_tokens d) line r

-- what a line of a device says, or None if it is not such a line
abbrev pub DeviceLineSays : Domain → List ℕ → Option Said → Type 0
DeviceLineSays d line r = TellsLine (device_in d) line r

-- an object that a line names is one of the domain
abbrev pub IsSaidOf : Domain → Said → Type 0
IsSaidOf d said.Nothing = Unit {0}
IsSaidOf d (said.Asks k x) = Unit {0}
IsSaidOf d (said.Answers o a s) = o < length d.objects
