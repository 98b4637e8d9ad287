-- How all objects of a domain stand, as lines.
use Rattle.std.specs.Prelude.{◌≡◌, ℕ, zero, suc, List, [], ◌∷◌, ◌++◌, Option, Some, None, codes, length, flat_map}
use Rattle.std.specs.List.{range_with_len}
use Rattle.sml_domain.specs.declared.value.Value.{Value}
use Rattle.sml_domain.specs.Domain.{Domain, Param}
use Rattle.sml_domain.specs.Lookups.{class_params_at}
use Rattle.smi_journal_entries.specs.declared.entry.Entry.{Entry}
use Rattle.smi_journal_entries.specs.declared.journal.Format.{Format}
use Rattle.smi_journal_entries.specs.declared.letter.Letter.{Letter}
use Rattle.smi_journal_entries.specs.Words.{open_at, state_of}
use Rattle.smi_journal.specs.CallText.{action_name_text, object_name_text, spaced, state_name_text, value_text}
use Rattle.smi_meaning.specs.Params.{ParamsAfter}

-- the line of an object's state
abbrev pub standing_state_line : Domain → ℕ → ℕ → List ℕ
standing_state_line d o s =
    codes "state" ++ (spaced (object_name_text d o) ++ (spaced (state_name_text d s) ++ codes "\n"))

-- the lines of the states of all objects
abbrev pub standing_states : Domain → List Entry → List ℕ
standing_states d J =
    flat_map (λ o. standing_state_line d o (state_of d o J)) (range_with_len 0 (length d.objects))

-- the line of an object's parameter
abbrev pub standing_param_line : Domain → ℕ → Param → Value → List ℕ
standing_param_line d o p v =
    codes "param" ++ (spaced (object_name_text d o) ++ (spaced p.name ++ (codes "=" ++ (value_text v ++ codes "\n"))))

-- the lines of an object's parameters
abbrev pub standing_param_lines : Domain → ℕ → List Param → List Value → List ℕ
standing_param_lines d o [] values = []
standing_param_lines d o (p ∷ ps) [] = []
standing_param_lines d o (p ∷ ps) (v ∷ vs) = standing_param_line d o p v ++ standing_param_lines d o ps vs

-- a text is the lines of the parameters of the first objects
abbrev pub AreParamLines : Format → Domain → List Entry → ℕ → List ℕ → Type 0
AreParamLines format d J zero text = text ≡ []
AreParamLines format d J (suc o) text = (before : List ℕ) × (own : List Value) × AreParamLines format d J o before
    × ParamsAfter format d o J own × (text ≡ before ++ standing_param_lines d o (class_params_at d o) own)

-- the line of what is open at an object, if anything is: its action, and behind that for what it waits
abbrev pub standing_open_line : Domain → ℕ → Option Letter → List ℕ → List ℕ
standing_open_line d o None waits = []
standing_open_line d o (Some l) waits =
    codes "open" ++ (spaced (object_name_text d o) ++ (spaced (action_name_text d l.action) ++ (waits ++ codes "\n")))

-- a text is the lines of what is open at the first objects
abbrev pub AreOpenLines : Domain → List Entry → ℕ → List ℕ → Type 0
AreOpenLines d J zero text = text ≡ []
AreOpenLines d J (suc o) text = (before : List ℕ) × (waits : List ℕ) × AreOpenLines d J o before
    × (text ≡ before ++ standing_open_line d o (open_at o J) waits)

-- a text tells of each object its state, its parameters and its open action behind a journal, and then other lines
pub record TellsStanding (format : Format) (d : Domain) (J : List Entry) (text : List ℕ) : Type 0 where
  pub params : List ℕ
  pub opens : List ℕ
  pub more : List ℕ
  pub are_params : AreParamLines format d J (length d.objects) params
  pub are_opens : AreOpenLines d J (length d.objects) opens
  pub whole : text ≡ standing_states d J ++ (params ++ (opens ++ more))
