use Rattle.std.specs.Arc.{arc_value}
use Rattle.smi_live.specs.Managing.{keeper_of}
use Rattle.smirun_live.proofs.BegunLogs.{continues_log}
use Rattle.smirun_live.proofs.continuing.continued_of.Goals as goal

pub returns-in-Ok-manager_after_lines-clause-log : goal.returns-in-Ok-manager_after_lines-clause-log
returns-in-Ok-manager_after_lines-clause-log c =
    let made = c.args.prepared in
    let b = c.in-Ok.beginning in
    continues_log made.text.items c.args.log.now made.options.capacity (arc_value b.domain) b.carried.names b.first.items
    c.in-Ok-manager_after_lines.manager.core.setup (keeper_of c.in-Ok-manager_after_lines.manager) c.in-Ok.ensures c.in-Ok-manager_after_lines.ensures.domain c.in-Ok-manager_after_lines.ensures.limits.0 c.in-Ok-manager_after_lines.ensures.log
