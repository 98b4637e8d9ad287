-- One class more for the next object.
use Rattle.std.proofs.Common.{◌+◌, sym, subst}
use Rattle.sml_outset.specs.Rows.{RowsAre, IsOwnClass}
use Rattle.sml_outset.proofs.Made.{more_rows}
use Rattle.sml_outset.proofs.begun.class_rows.Goals as goal

pub loop-o-preserved : goal.loop-o-preserved
loop-o-preserved c =
    let own = IsOwnClass c.args.domain.now c.args.outset.now in
    subst (RowsAre own (c.loop-o.o + 1)) (sym c.in_ok-push.ensures.items)
    (more_rows own c.loop-o.o c.loop-o.made.items c.in_ok-class_row.field-0 c.loop-o.invariant c.in_ok-class_row.ensures)
