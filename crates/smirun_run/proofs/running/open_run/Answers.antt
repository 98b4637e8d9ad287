use Rattle.std.proofs.Common.{◌∙◌, ap, length, subst, sym}
use Rattle.sml_domain.specs.Domain.{Domain}
use Rattle.smi_run_report.specs.Reports.{device_count}
use Rattle.smi_mail.specs.Mails.{MailboxesSide}
use Rattle.smirun_run.specs.Running.{IsOpenFault}
use Rattle.smirun_run.proofs.Openings.{open_fault, open_free}
use Rattle.smirun_run.proofs.running.open_run.Goals as goal

-- nothing was sent by ends that were just made
pub open-requires-clause-unused : goal.open-requires-clause-unused
open-requires-clause-unused g c κs within k e at = (c.in-Ok.ensures.ends k e at).1

pub returns-in-Ok-open-clause-devices : goal.returns-in-Ok-open-clause-devices
returns-in-Ok-open-clause-devices g c =
    let same = ap (λ (b : MailboxesSide). b.domain) c.requires.named ∙ c.requires.domain in
    let count = length c.args.devices.items in
    let free = open_free g.K.MailNames.names.domain c.args.numbers count c.in-Ok-open.ensures.free in
    free.1 ∙ ap device_count same

pub returns-in-Err-clause-refused : goal.returns-in-Err-clause-refused
returns-in-Err-clause-refused g c =
    let same = ap (λ (b : MailboxesSide). b.domain) c.requires.named ∙ c.requires.domain in
    let count = length c.args.devices.items in
    let fault = open_fault g.K.MailNames.names.domain c.args.numbers count c.in-Err.error c.in-Err.ensures.refused in
    subst (λ (d : Domain). IsOpenFault d c.args.numbers count c.from.result) same
    (subst (IsOpenFault g.K.MailNames.names.domain c.args.numbers count) (sym c.from.ensures) fault)
