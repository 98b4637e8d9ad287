use Rattle.std.proofs.Common.{◌≡◌, ◌∙◌, sym, ap, true, false, not, arith}
use Rattle.smi_live_answers.specs.EndWords.{in_word}
use Rattle.smi_live_answers.proofs.Ends.{ends_before, ends_here}
use Rattle.smi_live_answers.proofs.words.start_of_word.Goals as goal

pub loop-start-preserved : goal.loop-start-preserved
loop-start-preserved c =
    let is : c.is_blank.result ≡ false = grind (arith, c.if-not-is_blank.true) in
    let i = c.loop-start.invariant in
    (omega (arith, i.0), ends_before in_word c.args.text.now c.loop-start.start (omega (arith, c.loop-start-test.true)) i.0 (ap not (sym c.is_blank.ensures ∙ is)) i.1)

pub returns-else-not-is_blank-clause-end : goal.returns-else-not-is_blank-clause-end
returns-else-not-is_blank-clause-end c =
    let is : c.is_blank.result ≡ true = grind (arith, c.if-not-is_blank.false) in
    let i = c.loop-start.invariant in
    ends_here in_word c.args.text.now c.loop-start.start (omega (arith, c.loop-start-test.true)) i.0 (ap not (sym c.is_blank.ensures ∙ is)) i.1
