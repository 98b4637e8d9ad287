-- Lists that a sign closes.
use Rattle.std.specs.Prelude.{◌≡◌, List, ◌∷◌}
use Rattle.sml_tree.specs.declared.token_kind.TokenKind.{TokenKind}
use Rattle.sml_tree.specs.Piece.{Piece}
use Rattle.sml_tree.specs.Form.{Bone, B, P, Form, Fine, Part, family, Value, calls, needs}
use Rattle.sml_read_parts.specs.Machine.{run}

-- reading continues with another part and the sign that closes it
abbrev pub LeadsToClosed : (n next : Part) → TokenKind → (Value next → Value n) → List Piece → List Piece → Type 0
LeadsToClosed n next close front old new = (g : Part) (more : List Bone) (k : Value n → Form (Value g) more) →
    run g (P (family n) ∷ more) (calls n k) old ≡ run g (P (family next) ∷ B close ∷ more)
    (calls next (λ v. needs close Fine (λ _. k (front v)))) new
