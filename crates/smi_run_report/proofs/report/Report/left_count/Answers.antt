-- As many as there are letters of the sender.
use Rattle.std.proofs.Common.{◌≡◌, ◌≤◌, ◌∙◌, ℕ, List, arith, length, sym, ap, take, take_all}
use Rattle.smi_journal_entries.specs.declared.entry.Sender.{Sender}
use Rattle.smi_journal_entries.specs.declared.letter.Letter.{Letter}
use Rattle.smi_journal_entries.specs.Requests.{from_sender}
use Rattle.smi_mail.specs.Letters.{letters_from, requests_in}
use Rattle.smi_mail.proofs.Lists.{count_requests}
use Rattle.smi_run_report.proofs.report.Report.left_count.Goals as goal

all_counted : (n i : ℕ) (s : Sender) (left now : List Letter) → n ≡ length (letters_from s (take i left))
    → length left ≤ i → left ≡ now → n ≡ length (from_sender s (requests_in now))
all_counted n i s left now count all same =
    count ∙ ap (λ (l : List Letter). length (letters_from s l)) (take_all i left all ∙ same)
    ∙ sym (count_requests s now)

pub returns : goal.returns
returns g c =
    all_counted c.loop-envelope.count c.loop-envelope.envelope-index c.args.sender.now c.left-left.result.now _
    c.loop-envelope.invariant.0 (omega (arith, c.loop-envelope-test.false)) c.left-left.ensures
