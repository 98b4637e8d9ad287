use Rattle.sml_tree.specs.Content.{action_content, class_content, file_content, passed_content}
use Rattle.sml_check_faults.specs.Faults.{mismatched}
use Rattle.sml_check_faults.proofs.Loops.{first_one, first_more, named_so, named_not}
use Rattle.sml_check_faults.proofs.Rests.{rest_end}
use Rattle.sml_check_faults.proofs.tables.Tables.mismatched.Goals as goal

pub returns-then-is_mismatched : goal.returns-then-is_mismatched
returns-then-is_mismatched g c =
    let x = c.passed-item.result in
    first_one (mismatched (file_content c.args.self.now.file.now) c.args.called.now c.args.objects.now (class_content c.args.class.now) (action_content c.args.action.now)) passed_content c.args.args.now c.loop-passed.passed-index _ x c.loop-passed.invariant c.loop-passed-test.true c.passed-item.is x.name (named_so _ x.name c.if-is_mismatched.ensures)

pub loop-passed-preserved : goal.loop-passed-preserved
loop-passed-preserved g c =
    let x = c.passed-item.result in
    first_more (mismatched (file_content c.args.self.now.file.now) c.args.called.now c.args.objects.now (class_content c.args.class.now) (action_content c.args.action.now)) passed_content c.args.args.now c.loop-passed.passed-index _ x c.loop-passed.invariant c.loop-passed-test.true c.passed-item.is (named_not _ x.name c.if-is_mismatched.ensures)

pub returns : goal.returns
returns g c = rest_end c.loop-passed.invariant c.loop-passed-test.false
