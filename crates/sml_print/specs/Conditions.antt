-- The canonical text of conditions.
use Rattle.std.specs.Prelude.{ℕ, Bool, true, false, List, [], ◌∷◌, ◌++◌, codes}
use Rattle.sml_tree.specs.Syntax.{TestData, CondData, both, either, neither, test}
use Rattle.sml_tree.specs.declared.cond.Scope.{Scope}
use Rattle.sml_tree.specs.declared.cond.Scope.TheVariants.{One, All, Any}
use Rattle.sml_tree.specs.Brackets.{is_or, is_chain}
use Rattle.sml_print.specs.Words.{members_text}

-- one state alone, several in braces
abbrev pub states_text : List (List ℕ) → List ℕ
states_text (state ∷ []) = state
states_text states = members_text states

-- whom a test asks
abbrev pub scope_text : Scope → List ℕ
scope_text One = []
scope_text All = codes "all_in "
scope_text Any = codes "any_in "

-- what a test asks
abbrev pub sense_text : Bool → List ℕ
sense_text false = codes " in_state "
sense_text true = codes " not_in_state "

-- a test
abbrev pub test_text : TestData → List ℕ
test_text t = scope_text t.scope ++ (t.name ++ (sense_text t.negated ++ states_text t.states))

-- in brackets, where it needs them
abbrev pub bracketed : Bool → List ℕ → List ℕ
bracketed true text = codes "( " ++ (text ++ codes " )")
bracketed false text = text

-- Brackets are round an `or` under `and`, an `and` to the right of `and`, an `or` to the right of `or`, and
-- an `and` or `or` under `not`; nowhere else.
abbrev pub cond_text : CondData → List ℕ
cond_text (both a b) = bracketed (is_or a) (cond_text a) ++ (codes " and " ++ bracketed (is_chain b) (cond_text b))
cond_text (either a b) = cond_text a ++ (codes " or " ++ bracketed (is_or b) (cond_text b))
cond_text (neither a) = codes "not " ++ bracketed (is_chain a) (cond_text a)
cond_text (test t) = test_text t
