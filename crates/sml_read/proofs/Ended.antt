-- What is read of a whole text.
use Rattle.std.proofs.Common.{◌≡◌, List, [], ◌∷◌, Some, None, Ok, Err, ap, sym, ◌∙◌}
use Rattle.sml_tree.specs.declared.token_kind.TokenKind.{TokenKind}
use Rattle.sml_tree.specs.Piece.{Piece}
use Rattle.sml_tree.specs.Syntax.{ItemData}
use Rattle.sml_tree.specs.Form.{File, part, gives}
use Rattle.sml_read_parts.specs.declared.fault.Stop.{Stop}
use Rattle.sml_read_parts.specs.declared.fault.Stop.TheVariants as stop
use Rattle.sml_read_parts.specs.Machine.{run}
use Rattle.sml_read_parts.specs.Reads.{Passes, SeesTokenKind, Refusal, IfFault, Gives}

-- nothing is left behind the file
pub whole_read : (v : List ItemData) (old start new : List Piece) → old ≡ start → Passes (File 0 0 0) v old new → SeesTokenKind new None → run (File 0 0 0) _ (part (File 0 0 0)) start ≡ Ok v
whole_read v old start [] e a sees = ap (run (File 0 0 0) _ (part (File 0 0 0))) (sym e) ∙ a (File 0 0 0) [] gives
whole_read v old start (t ∷ ts) e a sees = absurd (cc sees)

-- a token is left, and it is the fault
pub token_left : {X : Type 0} (view : X → List ItemData) (v : List ItemData) (old start new : List Piece) (kind : TokenKind) (s : Stop) → old ≡ start → Passes (File 0 0 0) v old new
    → SeesTokenKind new (Some kind) → IfFault s (Refusal new) → Gives view (Err s) (run (File 0 0 0) _ (part (File 0 0 0)) start)
token_left view v old start [] kind s e a sees h = absurd (cc sees)
token_left view v old start (t ∷ ts) kind stop.Memory e a sees h = absurd h
token_left view v old start (t ∷ ts) kind (stop.Fault f) e a sees h = ap (run (File 0 0 0) _ (part (File 0 0 0))) (sym e) ∙ a (File 0 0 0) [] gives ∙ ap Err (sym h)
