-- What is left of a part behind the tokens and parts that were read of it.
use Rattle.std.specs.Prelude.{◌≡◌, List, ◌∷◌, ◌++◌}
use Rattle.sml_tree.specs.Piece.{Piece}
use Rattle.sml_tree.specs.Form.{Bone, P, Form, calls, ◌>>=◌, Part, family, Value}
use Rattle.sml_read_parts.specs.Machine.{run}

-- reading continues with this form, which is the rest of the part
abbrev pub Trail : (n : Part) (bones : List Bone) → Form (Value n) bones → List Piece → List Piece → Type 0
Trail n bones form old new = (g : Part) (more : List Bone) (k : Value n → Form (Value g) more) →
    run g (P (family n) ∷ more) (calls n k) old ≡ run g (bones ++ more) (form >>= k) new
