use Rattle.std.proofs.Common.{◌∙◌, ◌++◌, ℕ, List, ap, arith, codes, sym}
use Rattle.sml_text.specs.Decimal.{decimal_text}
use Rattle.smi_journal.specs.CallText.{object_name_text, spaced}
use Rattle.smi_journal.specs.EntryText.{sender_text}
use Rattle.smirun_run.specs.Summary.{counted_line, group_word}
use Rattle.smirun_run.proofs.Lines.{line_counted}
use Rattle.sml_writer.proofs.Telling.{tells_again, tells_nothing, then_tells}
use Rattle.smirun_run.proofs.summary.tell_summed.Goals as goal

pub returns-then-count-eq0 : goal.returns-then-count-eq0
returns-then-count-eq0 g c =
    let d = g.K.MailNames.names.domain in
    tells_again tells_nothing (ap (counted_line (group_word c.args.group ++ (spaced (sender_text d c.args.sender.now)
    ++ spaced (object_name_text d c.args.o)))) (sym c.if-count-eq0.true ∙ c.count-count.ensures))

-- the word, the sender and the object are the front of the line
pub returns : goal.returns
returns g c =
    let d = g.K.MailNames.names.domain in
    let front : List ℕ = group_word c.args.group ++ (spaced (sender_text d c.args.sender.now)
    ++ spaced (object_name_text d c.args.o)) in
    let before = then_tells c.say.ensures (then_tells c.tell_sender.ensures c.tell_object.ensures) in
    let behind = then_tells c.tell_number.ensures c.say-2.ensures in
    let is = tells_again before
    (λ i. c.word.ensures i ++ (spaced (sender_text (c.domain-domain.ensures i) c.args.sender.now)
    ++ spaced (object_name_text (c.domain-domain.ensures i) c.args.o))) in
    tells_again (then_tells is behind)
    (line_counted front c.count-count.result (omega arith) ∙ ap (counted_line front) c.count-count.ensures)
