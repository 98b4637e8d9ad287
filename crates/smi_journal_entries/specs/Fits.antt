-- Values that are the arguments of an action.
use Rattle.std.specs.Prelude.{ℕ, Bool, true, false, ◌&&◌, List, [], ◌∷◌, Option, None, Some}
use Rattle.sml_domain.specs.declared.value.Value.{Value}
use Rattle.sml_domain.specs.Values.{kind_of}
use Rattle.sml_domain.specs.Domain.{Domain, Param}
use Rattle.sml_domain.specs.Lookups.{params_at}
use Rattle.smi_journal_entries.specs.declared.letter.Letter.{Letter}
use Rattle.sml_tree.specs.Kinds.{same_kind}

-- whether values are those of parameters, in order, each with its kind
abbrev pub are_values_of : List Param → List Value → Bool
are_values_of [] [] = true
are_values_of [] (v ∷ vs) = false
are_values_of (p ∷ ps) [] = false
are_values_of (p ∷ ps) (v ∷ vs) = same_kind p.kind (kind_of v) && are_values_of ps vs

-- whether there are parameters, and values are theirs
abbrev pub are_given : Option (List Param) → List Value → Bool
are_given None values = false
are_given (Some params) values = are_values_of params values

-- whether an action is one of an object's class, and values are those of its parameters
abbrev pub are_arguments : Domain → ℕ → ℕ → List Value → Bool
are_arguments d o action values = are_given (params_at d o action) values

-- whether a letter fits an object: its action and arguments do
abbrev pub letter_fits : Domain → ℕ → Letter → Bool
letter_fits d o l = are_arguments d o l.action l.args
