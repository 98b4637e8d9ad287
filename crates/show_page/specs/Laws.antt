-- The laws of pages.
use Rattle.std.specs.Prelude.{◌≡◌, ℕ, ◌==◌, ◌&&◌, not, Bool, List}
use Rattle.sml_text.specs.Tokens.{Each}
use Rattle.show_page.specs.Escapes.{escaped, unescaped}

-- a byte that neither begins nor ends a mark
abbrev pub is_no_mark : ℕ → Bool
is_no_mark b = not (b == 60) && not (b == 62)

-- what a browser shows of bytes that stand in a page are these bytes
abbrev pub ShownBack : Type 0
ShownBack = (bytes : List ℕ) → unescaped (escaped bytes) ≡ bytes

-- and no byte of theirs begins or ends a mark
abbrev pub WithoutMarks : Type 0
WithoutMarks = (bytes : List ℕ) → Each is_no_mark (escaped bytes)
