-- What an item, a state or an action begins with: its word, a colon and its name.
use Rattle.std.specs.Prelude.{◌≡◌, ◌<◌, ℕ, List, ◌∷◌, ◌++◌, length, Result, Ok, Err}
use Rattle.sml_tree.specs.declared.token_kind.TokenKind.TheVariants.{Colon, Name}
use Rattle.sml_tree.specs.Piece.{Piece}
use Rattle.sml_tree.specs.Form.{Bone, B, P, Form, needs, calls, ◌>>=◌, Fine, Many, Part, family, Value}
use Rattle.sml_tree.specs.Grammar.{most, name}
use Rattle.sml_read_parts.specs.declared.fault.Stop.{Stop}
use Rattle.sml_read_parts.specs.Machine.{advance, Goes}
use Rattle.sml_read_parts.specs.Reads.{Stops}
use Rattle.sml_read_parts.specs.Trails.{Trail}

-- a part begins here with its word, with `before` parts before it and room for `limit`, and continues with a
-- colon and a name
abbrev pub Opens : (n : Part) (before limit : ℕ) (bones : List Bone) → (List ℕ → Form (Value n) bones) → List Piece →
    Type 0
Opens n before limit bones f old =
    (t : Piece) (ts : List Piece) → old ≡ t ∷ ts → (g : Part) (more : List Bone) (k : Value n → Form (Value g) more)
    → advance g (P (family n) ∷ more) (calls n k) t ≡ Goes (most limit before Many) (B Colon ∷ B Name ∷ (bones ++ more))
    (needs Colon Fine (λ _. needs Name Fine (λ x. f (name x) >>= k)))

-- what is read of it, for any part that begins so
abbrev pub ReadsHead : (before limit : ℕ) → List Piece → List Piece → Result (List ℕ) Stop → Type 0
ReadsHead before limit old new (Ok w) = (length new < length old)
    × ((n : Part) (bones : List Bone) (f : List ℕ → Form (Value n) bones) → Opens n before limit bones f old →
    Trail n bones (f w) old new)
ReadsHead before limit old new (Err e) = (n : Part) (bones : List Bone) (f : List ℕ → Form (Value n) bones) →
    Opens n before limit bones f old → Stops n old e
