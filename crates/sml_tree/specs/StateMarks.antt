-- The marks of a state in the grammar's own shape: one way to make each alternative.
use Rattle.std.specs.Prelude.{◌≡◌, Bool, true, false, List, [], ◌∷◌}
use Rattle.sml_tree.specs.declared.token_kind.TokenKind.TheVariants.{Slash, InitialState, DeadState}
use Rattle.sml_tree.specs.Piece.{Piece}

-- marks = nothing | / INITIAL_STATE | / DEAD_STATE | both, in either order
pub data AreMarks : List Piece → (initial dead : Bool) → Type 0 where
  unmarked : AreMarks [] false false
  initial_alone : (slash mark : Piece) → slash.kind ≡ Slash → mark.kind ≡ InitialState →
      AreMarks (slash ∷ mark ∷ []) true false
  dead_alone : (slash mark : Piece) → slash.kind ≡ Slash → mark.kind ≡ DeadState →
      AreMarks (slash ∷ mark ∷ []) false true
  initial_then_dead : (slash mark slash2 mark2 : Piece) → slash.kind ≡ Slash → mark.kind ≡ InitialState →
      slash2.kind ≡ Slash → mark2.kind ≡ DeadState
      → AreMarks (slash ∷ mark ∷ slash2 ∷ mark2 ∷ []) true true
  dead_then_initial : (slash mark slash2 mark2 : Piece) → slash.kind ≡ Slash → mark.kind ≡ DeadState →
      slash2.kind ≡ Slash → mark2.kind ≡ InitialState
      → AreMarks (slash ∷ mark ∷ slash2 ∷ mark2 ∷ []) true true
