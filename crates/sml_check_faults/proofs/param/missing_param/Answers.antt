use Rattle.std.proofs.Common.{map}
use Rattle.sml_tree.specs.Content.{action_param_content, passed_content}
use Rattle.sml_check_faults.specs.Faults.{missing_param}
use Rattle.sml_check_faults.proofs.Loops.{first_one, first_more, named_so, named_not}
use Rattle.sml_check_faults.proofs.Rests.{rest_end}
use Rattle.sml_check_faults.proofs.param.missing_param.Goals as goal

pub returns-then-is_missing : goal.returns-then-is_missing
returns-then-is_missing g c =
    let x = c.param-item.result in
    first_one (missing_param (map passed_content c.args.args.now)) action_param_content c.args.params.now c.loop-param.param-index _ x c.loop-param.invariant c.loop-param-test.true c.param-item.is x.name (named_so _ x.name c.if-is_missing.ensures)

pub loop-param-preserved : goal.loop-param-preserved
loop-param-preserved g c =
    let x = c.param-item.result in
    first_more (missing_param (map passed_content c.args.args.now)) action_param_content c.args.params.now c.loop-param.param-index _ x c.loop-param.invariant c.loop-param-test.true c.param-item.is (named_not _ x.name c.if-is_missing.ensures)

pub returns : goal.returns
returns g c = rest_end c.loop-param.invariant c.loop-param-test.false
