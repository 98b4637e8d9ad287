use Rattle.sml_tree.specs.Content.{action_param_content}
use Rattle.sml_check_faults.specs.Lookup.{is_action_param}
use Rattle.sml_check_faults.proofs.Loops.{find_one, find_more}
use Rattle.sml_check_faults.proofs.Rests.{rest_end}
use Rattle.sml_check_faults.proofs.lookup.action_param_in.Goals as goal

pub returns-then-is_name : goal.returns-then-is_name
returns-then-is_name g c = find_one (is_action_param c.args.name.now) action_param_content c.args.params.now c.loop-param.param-index _ c.param-item.result c.loop-param.invariant c.loop-param-test.true c.param-item.is c.if-is_name.ensures

pub loop-param-preserved : goal.loop-param-preserved
loop-param-preserved g c = find_more (is_action_param c.args.name.now) action_param_content c.args.params.now c.loop-param.param-index _ c.param-item.result c.loop-param.invariant c.loop-param-test.true c.param-item.is c.if-is_name.ensures

pub returns : goal.returns
returns g c = rest_end c.loop-param.invariant c.loop-param-test.false
