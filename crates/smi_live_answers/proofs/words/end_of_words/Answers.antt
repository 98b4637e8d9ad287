use Rattle.std.proofs.Common.{◌≡◌, ◌∙◌, sym, true, false, arith}
use Rattle.sml_text.specs.Bytes.{is_blank as blank}
use Rattle.smi_live_answers.proofs.Ends.{ends_before, ends_here}
use Rattle.smi_live_answers.proofs.words.end_of_words.Goals as goal

pub loop-end-preserved : goal.loop-end-preserved
loop-end-preserved c =
    let is : c.is_blank.result ≡ true = grind (arith, c.if-is_blank.true) in
    let i = c.loop-end.invariant in
    (omega (arith, i.0), ends_before blank c.args.text.now c.loop-end.end (omega (arith, c.loop-end-test.true)) i.0 (sym c.is_blank.ensures ∙ is) i.1)

pub returns-else-is_blank-clause-end : goal.returns-else-is_blank-clause-end
returns-else-is_blank-clause-end c =
    let not : c.is_blank.result ≡ false = grind (arith, c.if-is_blank.false) in
    let i = c.loop-end.invariant in
    ends_here blank c.args.text.now c.loop-end.end (omega (arith, c.loop-end-test.true)) i.0 (sym c.is_blank.ensures ∙ not) i.1
