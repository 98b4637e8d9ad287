-- The mail stays one of the domain that serves its senders.
use Rattle.std.proofs.Common.{◌≡◌, true}
use Rattle.smi_journal_entries.specs.declared.entry.Sender.{Sender}
use Rattle.smi_mail_plain.specs.Mails.{is_sender}
use Rattle.tests_of_journals.proofs.mails.wrong_step.Given as goal

abbrev pub invariant-loop-place : goal.invariant-loop-place
invariant-loop-place g l = record {
  domain : g.M.Mail.domain l.mail ≡ l.domain;
  serves : (s : Sender) → is_sender l.domain s ≡ true → g.M.Mail.serves l.mail s ≡ true;
}
