-- The books of the mailbox are kept.
use Rattle.std.proofs.Common.{◌≡◌, ◌+◌, ap, sym, ◌∙◌}
use Rattle.std.proofs.lemmas.Bool.{true≢false}
use Rattle.smi_journal_entries.specs.declared.entry.Sender.{Sender}
use Rattle.smi_journal_entries.specs.declared.letter.Letter.{Letter}
use Rattle.smi_journal_entries.specs.Requests.{same_sender}
use Rattle.smi_mail_plain.specs.Counts.{count_of, one_where}
use Rattle.smi_mail_plain.specs.Boxes.{BoxView}
use Rattle.smi_mail_plain.proofs.Kept.{kept_few, kept_more}
use Rattle.smi_mail_plain.proofs.mailbox.Mailbox.post.Goals as goal

pub add-requires-clause-few : goal.add-requires-clause-few
add-requires-clause-few c =
    kept_few _ _ _ _ _ c.self.invariant.0 (c.self.invariant.1 (ap (λ (b : BoxView). b.ready) c.self.view_is ∙ c.requires.ready)).1

pub invariant_of-self : goal.invariant_of-self
invariant_of-self c =
    let counts = c.self.inside.counts in
    let of : c.letter.result.now.sender ≡ c.set_number.new.self.sender =
    ap (λ (l : Letter). l.sender) c.letter.ensures ∙ sym (ap (λ (l : Letter). l.sender) c.set_number.ensures) in
    let number : c.set_number.new.self.number ≡ count_of counts c.set_number.new.self.sender =
    ap (λ (l : Letter). l.number) c.set_number.ensures ∙ c.of-number.ensures ∙ ap (count_of counts) of in (
      kept_more _ _ _ _ _ _ c.set_number.new.self c.self.invariant.0 c.push_back_reserved.ensures.items number
          (λ s. c.add.ensures.counts s ∙ ap (λ (t : Sender). count_of counts s + one_where (same_sender s t)) of),
      λ e. absurd (true≢false (sym e)),
    )
