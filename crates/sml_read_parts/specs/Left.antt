-- The tokens that are left.
use Rattle.std.specs.Prelude.{ℕ, Bool, List, [], ◌∷◌, Option, Some, None}
use Rattle.sml_text.specs.Stream.{tokens_from}
use Rattle.sml_text.specs.declared.source.Source.TheVariants.{Domain}
use Rattle.sml_tree.specs.Piece.{Piece, pieces}

-- the tokens of the rest of a text, behind a slash or not
abbrev pub left : Bool → ℕ → List ℕ → List Piece
left slash at text = pieces slash (tokens_from Domain at text)

-- a token that is held, and those of the rest; no tokens if none is held
abbrev pub led : Option Piece → List Piece → List Piece
led None ts = []
led (Some t) ts = t ∷ ts
