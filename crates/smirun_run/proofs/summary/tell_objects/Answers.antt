use Rattle.std.proofs.Common.{ℕ, List, ap}
use Rattle.smi_journal_entries.specs.declared.entry.Sender.TheVariants.{Object}
use Rattle.smirun_run.specs.Summary.{sender_lines}
use Rattle.smirun_run.proofs.Lines.{line_more}
use Rattle.sml_writer.proofs.Telling.{tells_again, then_tells}
use Rattle.smirun_run.proofs.summary.tell_objects.Goals as goal

-- the lines of one object more
pub loop-a-preserved : goal.loop-a-preserved
loop-a-preserved g c =
    let line : ℕ → List ℕ = λ a. sender_lines g.K.MailNames.names.domain c.args.report.now c.args.group (Object a) in
    tells_again (then_tells c.loop-a.invariant (tells_again c.tell_sent.ensures (ap line c.new.ensures)))
    (line_more line c.loop-a.a)
