use Rattle.sml_tree.specs.Content.{action_param_content}
use Rattle.sml_check_faults.proofs.Twice.{uneven, pairs_more, pairs_here, pairs_none}
use Rattle.sml_check_faults.proofs.differing.same_params.Goals as goal

pub returns-then-params-others : goal.returns-then-params-others
returns-then-params-others g c = uneven action_param_content c.args.params.now c.args.others.now c.if-params-others.true

pub returns-then-not-same_param : goal.returns-then-not-same_param
returns-then-not-same_param g c =
    pairs_here action_param_content c.args.params.now c.args.others.now c.loop-i.i _ c.index-params-i.result c.index-others-i.result c.loop-i.invariant c.loop-i-test.true c.index-params-i.is c.index-others-i.is c.if-not-same_param.ensures

pub loop-i-preserved : goal.loop-i-preserved
loop-i-preserved g c =
    pairs_more action_param_content c.args.params.now c.args.others.now c.loop-i.i _ c.index-params-i.result c.index-others-i.result c.loop-i.invariant c.loop-i-test.true c.index-params-i.is c.index-others-i.is c.if-not-same_param.ensures

pub returns : goal.returns
returns g c = pairs_none action_param_content c.args.params.now c.args.others.now c.loop-i.i _ c.loop-i.invariant c.loop-i-test.false
