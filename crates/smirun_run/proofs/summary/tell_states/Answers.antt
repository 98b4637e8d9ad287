use Rattle.std.proofs.Common.{ℕ, List, ap}
use Rattle.smirun_run.specs.Summary.{standing_line}
use Rattle.smirun_run.proofs.Lines.{line_more}
use Rattle.sml_writer.proofs.Telling.{tells_again, then_tells}
use Rattle.smirun_run.proofs.summary.tell_states.Goals as goal

-- the line of one object more
pub loop-o-preserved : goal.loop-o-preserved
loop-o-preserved g c =
    let line : ℕ → List ℕ = standing_line g.K.MailNames.names.domain c.args.report.now.journal in
    tells_again (then_tells c.loop-o.invariant (tells_again c.tell_standing.ensures (ap line c.new.ensures)))
    (line_more line c.loop-o.o)
