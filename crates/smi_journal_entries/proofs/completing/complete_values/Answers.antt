use Rattle.std.proofs.Common.{◌∙◌, ap, Some}
use Rattle.smi_journal_entries.specs.BadArguments.{gets_none}
use Rattle.smi_journal_entries.proofs.Rests.{none_here, one_more_value}
use Rattle.smi_journal_entries.proofs.completing.complete_values.Goals as goal

pub loop-param-preserved : goal.loop-param-preserved
loop-param-preserved c =
    let params = c.args.params.now in
    let passed = c.args.passed.now in
    let k = c.loop-param.param-index in
    record {
      made = one_more_value passed params k c.param-item.result c.in_ok-share.field-0 c.loop-param.values.items c.push.new.self.items c.loop-param-test.true c.param-item.is
          c.loop-param.invariant.made (ap Some c.in_ok-share.ensures.ok ∙ c.in-Some.ensures) c.in_ok-push.ensures.items;
      rest = (none_here (gets_none passed) params k c.param-item.result c.loop-param-test.true c.param-item.is c.loop-param.invariant.rest).1;
    }
