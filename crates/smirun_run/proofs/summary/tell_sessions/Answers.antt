use Rattle.std.proofs.Common.{◌+◌, ℕ, List, ap}
use Rattle.smi_journal_entries.specs.declared.entry.Sender.TheVariants.{Operator}
use Rattle.smirun_run.specs.Summary.{sender_lines}
use Rattle.smirun_run.proofs.Lines.{line_more}
use Rattle.sml_writer.proofs.Telling.{tells_again, then_tells}
use Rattle.smirun_run.proofs.summary.tell_sessions.Goals as goal

-- the lines of one session more
pub loop-place-preserved : goal.loop-place-preserved
loop-place-preserved g c =
    let of : ℕ → List ℕ = λ k. sender_lines g.K.MailNames.names.domain c.args.report.now c.args.group (Operator k) in
    let line : ℕ → List ℕ = λ k. of (k + 1) in
    tells_again (then_tells c.loop-place.invariant (tells_again c.tell_sent.ensures (ap of c.session_at.ensures)))
    (line_more line c.loop-place.place)
