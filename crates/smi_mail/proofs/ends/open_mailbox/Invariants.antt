use Rattle.smi_mail.specs.Rule.{mailbox_kind}
use Rattle.smi_mail.proofs.ends.open_mailbox.Given as goal

abbrev pub ghosts-named_mailbox : goal.ghosts-named_mailbox
ghosts-named_mailbox a = record { kind = mailbox_kind a.domain.now a.object; capacity = a.capacity }
