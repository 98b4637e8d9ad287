use Rattle.sml_tree.specs.Content.{passed_content}
use Rattle.sml_check_faults.specs.Lookup.{is_passed}
use Rattle.sml_check_faults.proofs.Loops.{any_one, any_more}
use Rattle.sml_check_faults.proofs.Rests.{rest_end}
use Rattle.sml_check_faults.proofs.param.passes.Goals as goal

pub returns-then-is_name : goal.returns-then-is_name
returns-then-is_name g c = any_one (is_passed c.args.name.now) passed_content c.args.args.now c.loop-passed.passed-index _ c.passed-item.result c.loop-passed.invariant c.loop-passed-test.true c.passed-item.is c.if-is_name.ensures

pub loop-passed-preserved : goal.loop-passed-preserved
loop-passed-preserved g c = any_more (is_passed c.args.name.now) passed_content c.args.args.now c.loop-passed.passed-index _ c.passed-item.result c.loop-passed.invariant c.loop-passed-test.true c.passed-item.is c.if-is_name.ensures

pub returns : goal.returns
returns g c = rest_end c.loop-passed.invariant c.loop-passed-test.false
