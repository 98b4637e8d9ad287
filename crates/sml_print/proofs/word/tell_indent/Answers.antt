use Rattle.std.proofs.Common.{◌≡◌, ap, arith}
use Rattle.sml_text.proofs.Writes.{told_as}
use Rattle.sml_print.specs.Words.{indent}
use Rattle.sml_print.proofs.Tolds.{indent_more}
use Rattle.sml_print.proofs.Tolds.{then_told}
use Rattle.sml_print.proofs.word.tell_indent.Goals as goal

pub loop-preserved : goal.loop-preserved
loop-preserved g c = (told_as _ _ _ _ _ _ (then_told c.loop.invariant.0 c.tell.ensures.told) (indent_more c.loop.counter), λ h. c.tell.ensures.due (c.loop.invariant.1 h))

pub returns-clause-told : goal.returns-clause-told
returns-clause-told g c =
    let end : c.loop.counter ≡ c.args.level = omega (arith, c.loop.auto.counter-end, c.loop-test.false) in
    told_as _ _ _ _ _ _ c.loop.invariant.0 (ap indent end)
