use Rattle.smirun_run.specs.Summary.{sender_lines}
use Rattle.smirun_run.proofs.Lines.{all_lines}
use Rattle.sml_writer.proofs.Telling.{tells_again, then_tells}
use Rattle.smirun_run.proofs.summary.tell_group.Goals as goal

pub returns : goal.returns
returns g c =
    let d = g.K.MailNames.names.domain in
    tells_again (then_tells c.tell_sessions.ensures c.tell_objects.ensures)
    (all_lines d (sender_lines d c.args.report.now c.args.group))
