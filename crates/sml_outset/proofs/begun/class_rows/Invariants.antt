use Rattle.sml_outset.specs.Rows.{RowsAre, IsOwnClass}
use Rattle.sml_outset.proofs.begun.class_rows.Given as goal

abbrev pub invariant-loop-o : goal.invariant-loop-o
invariant-loop-o l = RowsAre (IsOwnClass l.domain l.outset) l.o l.made.items
