use Rattle.std.proofs.Common.{◌≡◌, map, drop}
use Rattle.sml_tree.specs.Piece.{kind_in as kind'}
use Rattle.sml_tree.specs.Rows.{row_of}
use Rattle.sml_tree.specs.Word.{upper}
use Rattle.sml_tree.proofs.words.kind_in.Given as goal

-- the rows before this one are of other words
abbrev pub invariant-loop-row : goal.invariant-loop-row
invariant-loop-row l = kind' (map row_of l.fn.rows) (upper l.word) ≡ kind' (map row_of (drop l.row-index l.fn.rows)) (upper l.word)
