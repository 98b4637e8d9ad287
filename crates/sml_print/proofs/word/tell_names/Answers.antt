use Rattle.std.proofs.Common.{ap}
use Rattle.std.proofs.lemmas.List.{take_all}
use Rattle.sml_text.proofs.Writes.{told_as}
use Rattle.sml_print.specs.Words.{comma_list, name_text}
use Rattle.sml_print.proofs.Tolds.{listed_more}
use Rattle.sml_print.proofs.Tolds.{then_told}
use Rattle.sml_print.proofs.word.tell_names.Goals as goal

pub loop-i-preserved : goal.loop-i-preserved
loop-i-preserved g c = (
  told_as _ _ _ _ _ _ (then_told c.loop-i.invariant.0 (then_told c.tell_comma.ensures.told c.tell_name.ensures.told))
      (listed_more name_text c.args.names.now c.loop-i.i c.index-names-i.result c.loop-i-test.true c.index-names-i.is),
  λ h. c.tell_name.ensures.due (c.tell_comma.ensures.due (c.loop-i.invariant.1 h)),
)

pub returns-clause-told : goal.returns-clause-told
returns-clause-told g c = told_as _ _ _ _ _ _ c.loop-i.invariant.0 (ap (comma_list name_text) (take_all c.loop-i.i c.args.names.now c.loop-i-test.false))
