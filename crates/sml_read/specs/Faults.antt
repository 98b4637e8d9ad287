-- The first fault of tokens.
use Rattle.std.specs.Prelude.{◌≡◌, ℕ, List, [], ◌∷◌, ◌++◌}
use Rattle.sml_tree.specs.Piece.{Piece}
use Rattle.sml_tree.specs.Form.{Bone, Form, Part, File, part, Deep, Many, Value}
use Rattle.sml_tree.specs.Derive.{Marked, Derives, marked, fine, plain}
use Rattle.sml_read_parts.specs.declared.fault.Fault.{Fault}
use Rattle.sml_read_parts.specs.declared.fault.Fault.TheVariants.{Unexpected, TooDeep, TooMany, Ends}

-- some text of the form begins so
abbrev pub FormBegins : (g : Part) (bones : List Bone) → Form (Value g) bones → List Marked → Type 0
FormBegins g bones form ms = (rest : List Marked) × (v : Value g) × Derives g bones form (ms ++ rest) v

-- This token is the first at fault: a text begins with those before it, none of them at fault, and `Says` holds of it.
pub record FirstAt (g : Part) (bones : List Bone) (form : Form (Value g) bones) (ts : List Piece) (at : ℕ)
    (Says : List Piece → Piece → Type 0) : Type 0 where
  pub before : List Piece
  pub this : Piece
  pub after : List Piece
  pub whole : ts ≡ before ++ this ∷ after
  pub place : at ≡ this.at
  pub begun : FormBegins g bones form (fine before)
  pub says : Says before this

-- no text begins so, with any marks on its tokens
abbrev pub NoneBegins : (g : Part) (bones : List Bone) → Form (Value g) bones → List Piece → Type 0
NoneBegins g bones form ts = (ms : List Marked) → plain ms ≡ ts → FormBegins g bones form ms → ⊥

-- the first fault of the tokens
abbrev pub FaultOf : (g : Part) (bones : List Bone) → Form (Value g) bones → List Piece → Fault → Type 0
FaultOf g bones form ts (Unexpected at) =
    FirstAt g bones form ts at (λ before this. NoneBegins g bones form (before ++ this ∷ []))
FaultOf g bones form ts (TooDeep at) =
    FirstAt g bones form ts at (λ before this. FormBegins g bones form (fine before ++ marked Deep this ∷ []))
FaultOf g bones form ts (TooMany at) =
    FirstAt g bones form ts at (λ before this. FormBegins g bones form (fine before ++ marked Many this ∷ []))
FaultOf g bones form ts Ends = FormBegins g bones form (fine ts)
    × ((ms : List Marked) (v : Value g) → plain ms ≡ ts → Derives g bones form ms v → ⊥)

-- the first fault of the tokens of a text
abbrev pub FileFault : List Piece → Fault → Type 0
FileFault ts f = FaultOf (File 0 0 0) _ (part (File 0 0 0)) ts f
