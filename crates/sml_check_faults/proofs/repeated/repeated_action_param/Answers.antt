use Rattle.sml_tree.specs.Content.{action_param_content, class_content}
use Rattle.sml_check_faults.specs.Repeats.{repeated_action_param}
use Rattle.sml_check_faults.proofs.Rests.{each_here, each_next, past_end}
use Rattle.sml_check_faults.proofs.Loops.{named_so, named_not}
use Rattle.sml_check_faults.proofs.repeated.repeated_action_param.Goals as goal

pub returns-then-names_param : goal.returns-then-names_param
returns-then-names_param g c =
    let x = action_param_content c.index-params-i.result in
    each_here (repeated_action_param (class_content c.args.class.now)) action_param_content c.args.params.now c.loop-i.i _ c.index-params-i.result c.loop-i.invariant c.loop-i-test.true c.index-params-i.is x.name
    (named_so _ x.name c.if-names_param.ensures)

pub loop-i-preserved : goal.loop-i-preserved
loop-i-preserved g c =
    let x = action_param_content c.index-params-i.result in
    each_next (repeated_action_param (class_content c.args.class.now)) action_param_content c.args.params.now c.loop-i.i _ c.index-params-i.result c.loop-i.invariant c.loop-i-test.true c.index-params-i.is
    (named_not _ x.name c.if-names_param.ensures)

pub returns : goal.returns
returns g c = past_end c.loop-i.invariant c.loop-i-test.false
