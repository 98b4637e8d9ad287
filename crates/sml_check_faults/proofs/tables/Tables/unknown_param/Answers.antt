use Rattle.sml_tree.specs.Content.{action_content, class_content, file_content, passed_content}
use Rattle.sml_check_faults.specs.Faults.{unknown_passed}
use Rattle.sml_check_faults.proofs.Loops.{first_one, first_more}
use Rattle.sml_check_faults.proofs.Rests.{rest_end}
use Rattle.sml_check_faults.proofs.tables.Tables.unknown_param.Goals as goal

pub returns-in-Some : goal.returns-in-Some
returns-in-Some g c = first_one (unknown_passed (file_content c.args.self.now.file.now) c.args.called.now c.args.objects.now (class_content c.args.class.now) (action_content c.args.action.now)) passed_content c.args.args.now c.loop-passed.passed-index _ c.passed-item.result c.loop-passed.invariant c.loop-passed-test.true c.passed-item.is c.in-Some.name c.in-Some.ensures

pub loop-passed-preserved : goal.loop-passed-preserved
loop-passed-preserved g c = first_more (unknown_passed (file_content c.args.self.now.file.now) c.args.called.now c.args.objects.now (class_content c.args.class.now) (action_content c.args.action.now)) passed_content c.args.args.now c.loop-passed.passed-index _ c.passed-item.result c.loop-passed.invariant c.loop-passed-test.true c.passed-item.is c.in_default.ensures

pub returns : goal.returns
returns g c = rest_end c.loop-passed.invariant c.loop-passed-test.false
