-- What the answer to a step writes.
use Rattle.std.specs.Prelude.{ℕ, List, [], ◌++◌, Option, Some, None, Result, Ok, Err, codes, slice_get, option_map}
use Rattle.sml_text.specs.Decimal.{decimal_text}
use Rattle.sml_domain.specs.declared.value.Value.{Value}
use Rattle.sml_domain.specs.Domain.{Domain, Param}
use Rattle.std.specs.Option.{option_map_or}
use Rattle.sml_domain.specs.Sound.{name_of_param}
use Rattle.sml_domain.specs.Lookups.{object_named, action_named, class_params_at}
use Rattle.smi_journal_entries.specs.declared.entry.Entry.{Entry}
use Rattle.smi_journal.specs.CallText.{name_or_nothing, object_name_text, spaced, value_text, call_text}
use Rattle.smi_journal.specs.EntryText.{session_text}
use Rattle.smi_journal.specs.JournalText.{lines_text}
use Rattle.smi_world.specs.declared.step.Step.{Step}
use Rattle.smi_world.specs.declared.step.Step.TheVariants as step
use Rattle.smi_world.specs.declared.step.Answer.{Answer}
use Rattle.smi_world.specs.declared.step.Answer.TheVariants as answer
use Rattle.smi_world.specs.declared.refusal.StepError.{StepError}
use Rattle.smi_world.specs.declared.refusal.StepError.TheVariants as error
use Rattle.smi_world.specs.Steps.{object_in}

-- the word of a refusal
abbrev pub error_word : StepError → List ℕ
error_word error.UnknownObject = codes "UnknownObject"
error_word error.UnknownAction = codes "UnknownAction"
error_word error.BadArgs = codes "BadArgs"
error_word error.Memory = codes "Memory"
error_word error.Dead = codes "Dead"
error_word error.Full = codes "Full"
error_word error.Limit = codes "Limit"
error_word error.AlreadyOpen = codes "AlreadyOpen"
error_word error.Empty = codes "Empty"
error_word error.Associated = codes "Associated"
error_word error.NotAssociated = codes "NotAssociated"
error_word error.NotOpen = codes "NotOpen"
error_word error.NotAState = codes "NotAState"
error_word (error.AlreadyDead place) = codes "AlreadyDead"

-- the line of a refusal
abbrev pub refused_text : List ℕ → List ℕ
refused_text word = codes "refused " ++ (word ++ codes "\n")

-- the line of an accepted request: its session, its object, its number, and its action with complete arguments
abbrev pub accept_text : Domain → ℕ → ℕ → ℕ → ℕ → List Value → List ℕ
accept_text d k o n a args =
    codes "accept" ++ (spaced (session_text k) ++ (spaced (object_name_text d o)
    ++ (spaced (decimal_text n) ++ (spaced (call_text d o a args) ++ codes "\n"))))

-- this line, where both names stand for something
abbrev pub accepted_at : Domain → ℕ → ℕ → List Value → Option ℕ → Option ℕ → List ℕ
accepted_at d k n args (Some o) (Some a) = accept_text d k o n a args
accepted_at d k n args (Some o) None = []
accepted_at d k n args None a = []

-- the line of a step that was accepted under a number: only a request is
abbrev pub accepted_text : Domain → Step → ℕ → List Value → List ℕ
accepted_text d (step.Request k x y passed) n args = accepted_at d k n args (object_named d x) (action_named d y)
accepted_text d s n args = []

-- the name of the parameter at a place
abbrev pub name_at : List Param → ℕ → List ℕ
name_at params p = name_or_nothing (option_map name_of_param (slice_get params p))

-- the line of a parameter that was set
abbrev pub parameter_set_text : Domain → ℕ → ℕ → Value → List ℕ
parameter_set_text d o p v =
    codes "set" ++ (spaced (object_name_text d o) ++ (spaced (name_at (class_params_at d o) p)
    ++ (codes "=" ++ (value_text v ++ codes "\n"))))

-- the line of an action that waits on
abbrev pub still_text : Domain → ℕ → List ℕ
still_text d o = codes "still" ++ (spaced (object_name_text d o) ++ codes "\n")

-- the line of a step that set a parameter of its object
abbrev pub changed_text : Domain → Step → ℕ → Value → List ℕ
changed_text d s p v = option_map_or (λ o. parameter_set_text d o p v) (object_named d (object_in s)) []

-- the line of a step whose object waits on
abbrev pub waits_text : Domain → Step → List ℕ
waits_text d s = option_map_or (still_text d) (object_named d (object_in s)) []

-- the lines of the answer to a step, with the entries that it added
abbrev pub answer_text : Domain → Step → Result Answer StepError → List Entry → List ℕ
answer_text d s (Ok (answer.Accepted n args)) added = accepted_text d s n args
answer_text d s (Ok (answer.Entries first count)) added = lines_text d added
answer_text d s (Ok (answer.Changed p v)) added = changed_text d s p v
answer_text d s (Ok answer.Still) added = waits_text d s
answer_text d s (Err e) added = refused_text (error_word e)
