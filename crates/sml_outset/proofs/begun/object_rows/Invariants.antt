use Rattle.sml_outset.specs.Rows.{RowsAre, IsOwnObject}
use Rattle.sml_outset.proofs.begun.object_rows.Given as goal

abbrev pub invariant-loop-o : goal.invariant-loop-o
invariant-loop-o l = RowsAre (IsOwnObject l.domain) l.o l.made.items
