use Rattle.std.proofs.Common.{◌≡◌, ◌∙◌, ◌++◌, sym, ap, Option}
use Rattle.std.proofs.lemmas.List.{append-nil}
use Rattle.smi_run_runtime.specs.Sessions.{SessionBook}
use Rattle.smi_run_runtime.specs.Closing.{receipts_of}
use Rattle.smi_run_report.specs.Receipts.{unmet_among}
use Rattle.smi_run_runtime.proofs.closing.add_unmet_at.Goals as goal

pub returns-in-None : goal.returns-in-None
returns-in-None g c =
    sym (ap (λ (r : Option SessionBook). c.args.unmet.now.items ++ unmet_among c.args.journal.now (receipts_of r)) c.in-None.ensures ∙ append-nil c.args.unmet.now.items)
