-- Conditions in the grammar's own shape: one way to make each alternative, and no counts. Above each relation is
-- its rule.
use Rattle.std.specs.Prelude.{◌≡◌, Bool, true, false, ℕ, List, [], ◌∷◌, ◌++◌}
use Rattle.sml_tree.specs.declared.token_kind.TokenKind.TheVariants.{InState, NotInState, AllIn, AnyIn, And, Or, Not, Comma, OpenBracket, CloseBracket, OpenBrace, CloseBrace, Name}
use Rattle.sml_tree.specs.declared.cond.Scope.{Scope}
use Rattle.sml_tree.specs.declared.cond.Scope.TheVariants as scope
use Rattle.sml_tree.specs.Syntax.{TestData, CondData, both, either, neither, test}
use Rattle.sml_tree.specs.Piece.{Piece}
use Rattle.sml_tree.specs.Grammar.{name}

-- name+,
pub data AreNames : List Piece → List (List ℕ) → Type 0 where
  last_name : (t : Piece) → t.kind ≡ Name → AreNames (t ∷ []) (name t ∷ [])
  more_names : (t comma : Piece) (ts : List Piece) (names : List (List ℕ)) → t.kind ≡ Name → comma.kind ≡ Comma →
      AreNames ts names → AreNames (t ∷ comma ∷ ts) (name t ∷ names)

-- states = name | { name+, }
pub data AreStates : List Piece → List (List ℕ) → Type 0 where
  bare : (t : Piece) → t.kind ≡ Name → AreStates (t ∷ []) (name t ∷ [])
  braced : (left right : Piece) (ts : List Piece) (names : List (List ℕ)) → left.kind ≡ OpenBrace → AreNames ts names →
      right.kind ≡ CloseBrace → AreStates (left ∷ (ts ++ right ∷ [])) names

-- IN_STATE | NOT_IN_STATE
pub data IsSense : List Piece → Bool → Type 0 where
  in_state : (t : Piece) → t.kind ≡ InState → IsSense (t ∷ []) false
  not_in_state : (t : Piece) → t.kind ≡ NotInState → IsSense (t ∷ []) true

-- [ ALL_IN | ANY_IN ]
pub data IsScope : List Piece → Scope → Type 0 where
  of_one : IsScope [] scope.One
  of_all : (t : Piece) → t.kind ≡ AllIn → IsScope (t ∷ []) scope.All
  of_any : (t : Piece) → t.kind ≡ AnyIn → IsScope (t ∷ []) scope.Any

-- test = [ ALL_IN | ANY_IN ] name ( IN_STATE | NOT_IN_STATE ) states
pub data IsTest : List Piece → TestData → Type 0 where
  asked : (ts us vs : List Piece) (t : Piece) (scope : Scope) (negated : Bool) (states : List (List ℕ)) →
      IsScope ts scope → t.kind ≡ Name → IsSense us negated → AreStates vs states
      → IsTest (ts ++ t ∷ (us ++ vs)) (record { scope = scope; name = name t; negated = negated; states = states })

mutual
  -- cond = conj | cond OR conj
  pub data IsCond : List Piece → CondData → Type 0 where
    conj : (ts : List Piece) (c : CondData) → IsConj ts c → IsCond ts c
    cond_or_conj : (ts us : List Piece) (t : Piece) (l r : CondData) → IsCond ts l → t.kind ≡ Or → IsConj us r →
        IsCond (ts ++ t ∷ us) (either l r)

  -- conj = unit | conj AND unit
  pub data IsConj : List Piece → CondData → Type 0 where
    unit : (ts : List Piece) (c : CondData) → IsUnit ts c → IsConj ts c
    conj_and_unit : (ts us : List Piece) (t : Piece) (l r : CondData) → IsConj ts l → t.kind ≡ And → IsUnit us r →
        IsConj (ts ++ t ∷ us) (both l r)

  -- unit = NOT unit | ( cond ) | test
  pub data IsUnit : List Piece → CondData → Type 0 where
    not_unit : (t : Piece) (ts : List Piece) (c : CondData) → t.kind ≡ Not → IsUnit ts c → IsUnit (t ∷ ts) (neither c)
    brackets : (left right : Piece) (ts : List Piece) (c : CondData) → left.kind ≡ OpenBracket → IsCond ts c →
        right.kind ≡ CloseBracket → IsUnit (left ∷ (ts ++ right ∷ [])) c
    one_test : (ts : List Piece) (x : TestData) → IsTest ts x → IsUnit ts (test x)
