use Rattle.std.proofs.Common.{◌+◌, ◌≡◌, ◌∙◌, ◌++◌, ap, sym, List}
use Rattle.smi_run_report.specs.declared.told.Receipt.{Receipt}
use Rattle.smi_run_report.specs.Receipts.{unmet_among}
use Rattle.smi_run_runtime.specs.Closing.{receipts_of, closed_of}
use Rattle.smi_run_runtime.proofs.Places.{unmet_more}
use Rattle.smi_run_runtime.proofs.closing.unmet_of.Goals as goal

pub loop-k-preserved : goal.loop-k-preserved
loop-k-preserved g c = c.in_ok-add_unmet_at.ensures ∙ ap (λ (l : List Receipt). l ++ unmet_among c.args.journal.now (receipts_of (closed_of c.args.closed.now (c.loop-k.k + 1)))) c.loop-k.invariant ∙ sym (unmet_more c.args.journal.now c.args.closed.now c.loop-k.k)
