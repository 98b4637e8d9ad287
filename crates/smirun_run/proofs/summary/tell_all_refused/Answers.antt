use Rattle.smirun_run.specs.Summary.{refused_line}
use Rattle.smirun_run.proofs.Lines.{line_more}
use Rattle.sml_writer.proofs.Telling.{tells_again, then_tells}
use Rattle.smirun_run.proofs.summary.tell_all_refused.Goals as goal

-- the line of one session more
pub loop-place-preserved : goal.loop-place-preserved
loop-place-preserved g c =
    tells_again (then_tells c.loop-place.invariant c.tell_refused.ensures)
    (line_more (refused_line c.args.refused.now) c.loop-place.place)
