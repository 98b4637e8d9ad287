-- The report says what the closed board and the ends say.
use Rattle.std.proofs.Common.{◌∙◌, sym}
use Rattle.smi_run_report.proofs.Final.{all_ends, final_report}
use Rattle.smi_run_report.proofs.report.Report.close.Goals as goal

pub close_into-ledger-requires-after_bounds : goal.close_into-ledger-requires-after_bounds
close_into-ledger-requires-after_bounds g c κs within =
    all_ends _ c.args.ends.items c.args.accepted.items c.requires.told

pub invariant_of-result : goal.invariant_of-result
invariant_of-result g c =
    let names = g.K.MailNames.names in
    let given = c.args in
    let shown = c.close_into-ledger.result in
    let closed = c.close_into-ledger.ensures in (
      final_report names.domain names.sessions given.ends.items given.accepted.items given.board.journal shown.1
          c.requires.told closed.closed shown.0.journal closed.journal,
      closed.domain ∙ sym c.tells.ensures.domain,
      c.requires.devices,
    )
