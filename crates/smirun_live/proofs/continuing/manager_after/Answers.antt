use Rattle.std.specs.Arc.{arc_value}
use Rattle.smi_live.specs.Managing.{keeper_of}
use Rattle.smirun_live.proofs.BegunLogs.{continues_log}
use Rattle.smirun_live.proofs.LedTo.{if_ok_three}
use Rattle.smirun_live.proofs.continuing.manager_after.Goals as goal

pub returns-in-Ok-clause-log : goal.returns-in-Ok-clause-log
returns-in-Ok-clause-log c =
    let made = c.args.prepared.now in
    let b = c.in-Ok.beginning in
    let lines = c.manager_after_lines.ensures in
    if_ok_three c.manager_after_lines.result _ _ _ _ lines.domain lines.limits lines.log
    (λ m same limits after. continues_log made.text.items c.args.log.text.now made.options.capacity (arc_value b.domain) b.carried.names b.first.items
    m.core.setup (keeper_of m) c.in-Ok.ensures same limits.0 after)
