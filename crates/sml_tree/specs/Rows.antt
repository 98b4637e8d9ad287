-- The table of words in the program.
use Rattle.std.specs.Prelude.{ℕ, ◌==◌, List, length}
use Rattle.std.specs.List.{filter}
use Rattle.sml_tree.specs.Piece.{Reserved}
use Rattle.sml_tree.specs.declared.words.Row.{Row}

-- a row of the table
abbrev pub row_of : Row → Reserved
row_of r = record { word = r.word.now; kind = r.kind }

-- the rows of words of `n` bytes
abbrev pub of_length : ℕ → List Reserved → List Reserved
of_length n rows = filter (λ row. length row.word == n) rows
