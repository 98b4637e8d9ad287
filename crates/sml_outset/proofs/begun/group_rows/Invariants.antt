use Rattle.sml_outset.specs.Rows.{RowsAre, IsPutGroup}
use Rattle.sml_outset.proofs.begun.group_rows.Given as goal

abbrev pub invariant-loop-set : goal.invariant-loop-set
invariant-loop-set l = RowsAre (IsPutGroup l.domain l.outset) l.set l.made.items
