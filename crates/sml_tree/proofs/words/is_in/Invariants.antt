use Rattle.std.proofs.Common.{◌≡◌, map, drop}
use Rattle.std.specs.List.{list_any}
use Rattle.sml_tree.specs.Piece.{is_row}
use Rattle.sml_tree.specs.Rows.{row_of}
use Rattle.sml_tree.proofs.words.is_in.Given as goal

-- the rows before this one are of other words
abbrev pub invariant-loop-row : goal.invariant-loop-row
invariant-loop-row l = list_any (is_row l.word) (map row_of l.fn.rows) ≡ list_any (is_row l.word) (map row_of (drop l.row-index l.fn.rows))
