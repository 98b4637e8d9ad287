use Rattle.std.proofs.Common.{subst}
use Rattle.smi_live.specs.Managing.{keeper_of}
use Rattle.smirun_next.proofs.Nexts.{none_there}
use Rattle.smirun_next.specs.NextLogs.{KeeperHasNoNext}
use Rattle.smirun_next.proofs.next_text.next_of_made.Goals as goal

pub returns-in-Ok : goal.returns-in-Ok
returns-in-Ok c =
    let names = c.args.names.now in
    let k = keeper_of c.args.made.manager in
    subst (λ d. KeeperHasNoNext d k names.canonical.now names.capacity names.log.now) c.deref.ensures
    (none_there c.in-Ok-None.field-0 _ c.in-Ok-None.field-0-is c.in-Ok-None.ensures.none)
