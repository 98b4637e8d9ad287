-- What was taken begins what was posted.
use Rattle.std.proofs.Common.{sym}
use Rattle.smi_journal_entries.specs.Requests.{from_sender}
use Rattle.smi_mail_plain.specs.Boxes.{box_at}
use Rattle.smi_mail_plain.proofs.Senders.{from-append}
use Rattle.smi_mail_plain.proofs.plain.PlainMailMail.in_order.Goals as goal

pub returns-clause-begins : goal.returns-clause-begins
returns-clause-begins c s _ =
    let b = box_at c.args.self.now.boxes c.args.o in
    (from_sender s b.waiting, sym (from-append s b.taken b.waiting))
