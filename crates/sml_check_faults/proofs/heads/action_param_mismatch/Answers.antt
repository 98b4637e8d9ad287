use Rattle.sml_tree.specs.Content.{action_param_content}
use Rattle.sml_check_faults.specs.Heads.{action_param_mismatch}
use Rattle.sml_check_faults.proofs.Loops.{first_one, first_more, named_so, named_not}
use Rattle.sml_check_faults.proofs.Rests.{rest_end}
use Rattle.sml_check_faults.proofs.heads.action_param_mismatch.Goals as goal

pub returns-then-is_default_mismatched : goal.returns-then-is_default_mismatched
returns-then-is_default_mismatched g c =
    let x = c.param-item.result in
    first_one action_param_mismatch action_param_content c.args.params.now c.loop-param.param-index _ x c.loop-param.invariant c.loop-param-test.true c.param-item.is x.name (named_so _ x.name c.if-is_default_mismatched.ensures)

pub loop-param-preserved : goal.loop-param-preserved
loop-param-preserved g c =
    let x = c.param-item.result in
    first_more action_param_mismatch action_param_content c.args.params.now c.loop-param.param-index _ x c.loop-param.invariant c.loop-param-test.true c.param-item.is (named_not _ x.name c.if-is_default_mismatched.ensures)

pub returns : goal.returns
returns g c = rest_end c.loop-param.invariant c.loop-param-test.false
