-- The actions of a class, gathered one after another, each with the parameters that come with its name first.
use Rattle.std.specs.Prelude.{ℕ, List, [], ◌∷◌, ◌++◌, fold, if◌then◌else◌}
use Rattle.std.specs.List.{list_any}
use Rattle.sml_tree.specs.Syntax.{ActionData}
use Rattle.sml_domain.specs.Names.{same_name}
use Rattle.sml_domain.specs.Domain.{Signature}
use Rattle.sml_check_build.specs.Numbers.{Names, number}
use Rattle.sml_check_build.specs.Rows.{action_param_rows}

-- names that came so far, and their actions
pub record Signed : Type 0 where
  pub declared : List (List ℕ)
  pub rows : List Signature

-- nothing came
abbrev pub nothing_signed : Signed
nothing_signed = record { declared = []; rows = [] }

-- an action with its own parameters
abbrev pub own_signature : Names → ActionData → Signature
own_signature n a = record { action = number n.actions a.name; params = action_param_rows a }

-- with an action whose name did not come yet
abbrev pub with_new : Names → Signed → ActionData → Signed
with_new n s a = record { declared = s.declared ++ a.name ∷ []; rows = s.rows ++ own_signature n a ∷ [] }

-- with an action, unless its name came
abbrev pub with_action : Names → Signed → ActionData → Signed
with_action n s a = if list_any (same_name a.name) s.declared then s else with_new n s a

-- with some actions in order
abbrev pub with_actions : Names → Signed → List ActionData → Signed
with_actions n s actions = fold (with_action n) s actions
