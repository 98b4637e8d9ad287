-- The table derives the marks of the grammar's own shape.
use Rattle.std.proofs.Common.{◌≡◌, Bool, true, false, List, [], ◌∷◌, refl, subst, sym, append-nil, inl, inr}
use Rattle.sml_tree.specs.declared.token_kind.TokenKind.TheVariants.{Slash, InitialState, DeadState}
use Rattle.sml_tree.specs.Piece.{Piece}
use Rattle.sml_tree.specs.Form as of
use Rattle.sml_tree.specs.Form.{Part, Value, Marks}
use Rattle.sml_tree.specs.StateMarks.{AreMarks, unmarked, initial_alone, dead_alone, initial_then_dead, dead_then_initial}
use Rattle.sml_tree.specs.Laws.{IsTextOf, SameMarks}
use Rattle.sml_tree.proofs.Shows.{Closed, free, holds, writes, writes_none}

abbrev marks_of : Bool → Bool → Marks
marks_of initial dead = record { initial = initial; dead = dead }

-- ---- what the table derives is in the grammar's own shape, behind what is before it
abbrev Shaped : (n : Part) → List Piece → Value n → Type 0
Shaped of.StateMark ts v = AreMarks ts v.initial v.dead
Shaped of.FirstMark ts v = (slash : Piece) → slash.kind ≡ Slash → AreMarks (slash ∷ ts) v.initial v.dead
Shaped of.DeadMark ts v = (slash mark : Piece) → slash.kind ≡ Slash → mark.kind ≡ InitialState → AreMarks (slash ∷ mark ∷ ts) true v
Shaped of.InitialMark ts v = (slash mark : Piece) → slash.kind ≡ Slash → mark.kind ≡ DeadState → AreMarks (slash ∷ mark ∷ ts) v true
Shaped _ ts v = Unit {0}

shaped : (n : Part) → Closed Shaped n
shaped of.StateMark = (unmarked, (λ t e w us x. subst (λ l. AreMarks (t ∷ l) w.initial w.dead) (sym (append-nil us)) (x t e), tt))
shaped of.FirstMark = (
  tt,
  (
    λ t e w us x slash i. subst (λ l. AreMarks (slash ∷ t ∷ l) true w) (sym (append-nil us)) (x slash t i e),
    (λ t e w us x slash i. subst (λ l. AreMarks (slash ∷ t ∷ l) w true) (sym (append-nil us)) (x slash t i e), tt),
  ),
)
shaped of.DeadMark = (λ slash mark i j. initial_alone slash mark i j, (λ t e u k slash mark i j. initial_then_dead slash mark t u i j e k, tt))
shaped of.InitialMark = (λ slash mark i j. dead_alone slash mark i j, (λ t e u k slash mark i j. dead_then_initial slash mark t u i j e k, tt))
shaped n = free Shaped n (λ ts v. tt)

-- ---- what is in the grammar's own shape is derived by the table
behind_slash : (slash : Piece) (ts : List Piece) (v : Marks) → slash.kind ≡ Slash → IsTextOf of.FirstMark ts v → IsTextOf of.StateMark (slash ∷ ts) v
behind_slash slash ts v i s = subst (λ l. IsTextOf of.StateMark (slash ∷ l) v) (append-nil ts) (writes of.StateMark _ (inl refl) slash i v ts s)

initial_first : (mark : Piece) (ts : List Piece) (dead : Bool) → mark.kind ≡ InitialState → IsTextOf of.DeadMark ts dead → IsTextOf of.FirstMark (mark ∷ ts) (marks_of true dead)
initial_first mark ts dead j s = subst (λ l. IsTextOf of.FirstMark (mark ∷ l) (marks_of true dead)) (append-nil ts) (writes of.FirstMark _ (inl refl) mark j dead ts s)

dead_first : (mark : Piece) (ts : List Piece) (initial : Bool) → mark.kind ≡ DeadState → IsTextOf of.InitialMark ts initial → IsTextOf of.FirstMark (mark ∷ ts) (marks_of initial true)
dead_first mark ts initial j s = subst (λ l. IsTextOf of.FirstMark (mark ∷ l) (marks_of initial true)) (append-nil ts) (writes of.FirstMark _ (inr (inl refl)) mark j initial ts s)

marks_written : (ts : List Piece) (initial dead : Bool) → AreMarks ts initial dead → IsTextOf of.StateMark ts (marks_of initial dead)
marks_written ts initial dead unmarked = writes_none of.StateMark (marks_of false false) refl
marks_written ts initial dead (initial_alone slash mark i j) =
    behind_slash slash (mark ∷ []) (marks_of true false) i (initial_first mark [] false j (writes_none of.DeadMark false refl))
marks_written ts initial dead (dead_alone slash mark i j) =
    behind_slash slash (mark ∷ []) (marks_of false true) i (dead_first mark [] false j (writes_none of.InitialMark false refl))
marks_written ts initial dead (initial_then_dead slash mark slash2 mark2 i j k l) =
    behind_slash slash (mark ∷ slash2 ∷ mark2 ∷ []) (marks_of true true) i (initial_first mark (slash2 ∷ mark2 ∷ []) true j (writes of.DeadMark _ (inl refl) slash2 k mark2 l))
marks_written ts initial dead (dead_then_initial slash mark slash2 mark2 i j k l) =
    behind_slash slash (mark ∷ slash2 ∷ mark2 ∷ []) (marks_of true true) i (dead_first mark (slash2 ∷ mark2 ∷ []) true j (writes of.InitialMark _ (inl refl) slash2 k mark2 l))

pub same_marks : SameMarks
same_marks ts initial dead = (
  λ h. holds Shaped shaped of.StateMark ts (marks_of initial dead) h,
  λ h. marks_written ts initial dead h,
)
