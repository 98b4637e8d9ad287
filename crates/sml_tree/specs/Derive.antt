-- What the grammar derives.
use Rattle.std.specs.Prelude.{◌≡◌, List, [], ◌∷◌, ◌++◌, Some, ◌⊎◌}
use Rattle.sml_tree.specs.declared.token_kind.TokenKind.{TokenKind}
use Rattle.sml_tree.specs.Syntax.{ItemData}
use Rattle.sml_tree.specs.Piece.{Piece}
use Rattle.sml_tree.specs.Form.{Bone, B, P, Form, gives, needs, calls, part, Mark, Fine, Part, File, family, Value}
use Rattle.sml_tree.specs.Grammar.{Rule, rules, empty}

-- a token, and which limit refuses it there, if any
pub record Marked : Type 0 where
  pub token : Piece
  pub mark : Mark

-- x is one of the list
abbrev pub OneOf : {A : Type 0} → List A → A → Type 0
OneOf [] x = ⊥
OneOf (y ∷ ys) x = (x ≡ y) ⊎ OneOf ys x

-- Derives g bones form ms v: the form derives the tokens, and is then worth v. A part is left out, if it may
-- be, or it is written in one of its ways, and its tokens are before those of the rest.
pub data Derives : (g : Part) (bones : List Bone) → Form (Value g) bones → List Marked → Value g → Type 0 where
  nothing : (g : Part) (v : Value g) → Derives g [] (gives v) [] v
  token : (g : Part) (bones : List Bone) (kind : TokenKind) (mark : Mark) (f : Piece → Form (Value g) bones) (t : Piece)
      (ms : List Marked) (v : Value g)
      → t.kind ≡ kind → Derives g bones (f t) ms v → Derives g (B kind ∷ bones) (needs kind mark f)
      (record { token = t; mark = mark } ∷ ms) v
  left_out : (g n : Part) (bones : List Bone) (f : Value n → Form (Value g) bones) (w : Value n) (ms : List Marked)
      (v : Value g)
      → empty n ≡ Some w → Derives g bones (f w) ms v → Derives g (P (family n) ∷ bones) (calls n f) ms v
  written : (g n : Part) (bones : List Bone) (f : Value n → Form (Value g) bones) (rule : Rule n) (w : Value n)
      (us ms : List Marked) (v : Value g)
      → OneOf (rules n) rule → Derives n (B rule.kind ∷ rule.bones) (needs rule.kind rule.mark rule.rest) us w
      → Derives g bones (f w) ms v → Derives g (P (family n) ∷ bones) (calls n f) (us ++ ms) v

-- a token with its mark
abbrev pub marked : Mark → Piece → Marked
marked mark t = record { token = t; mark = mark }

-- tokens that no limit refuses
abbrev pub fine : List Piece → List Marked
fine [] = []
fine (t ∷ ts) = marked Fine t ∷ fine ts

-- the tokens alone
abbrev pub plain : List Marked → List Piece
plain [] = []
plain (m ∷ ms) = m.token ∷ plain ms

-- the tokens are a text of the file, within all limits
abbrev pub IsFile : List Piece → List ItemData → Type 0
IsFile ts file = Derives (File 0 0 0) _ (part (File 0 0 0)) (fine ts) file
