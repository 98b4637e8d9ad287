use Rattle.sml_tree.specs.Content.{action_content, file_content}
use Rattle.sml_check_faults.specs.Heads.{other_params}
use Rattle.sml_check_faults.specs.Tables.{file_class_at}
use Rattle.sml_check_faults.proofs.Loops.{first_one, first_more, named_so, named_not}
use Rattle.sml_check_faults.proofs.Rests.{rest_end}
use Rattle.sml_check_faults.proofs.tables.Tables.other_action.Goals as goal

pub returns-then-differs : goal.returns-then-differs
returns-then-differs g c =
    let x = c.action-item.result in
    first_one (other_params (file_class_at (file_content c.args.self.now.file.now) c.args.class)) action_content c.args.actions.now c.loop-action.action-index _ x c.loop-action.invariant c.loop-action-test.true c.action-item.is x.name (named_so _ x.name c.if-differs.ensures)

pub loop-action-preserved : goal.loop-action-preserved
loop-action-preserved g c =
    let x = c.action-item.result in
    first_more (other_params (file_class_at (file_content c.args.self.now.file.now) c.args.class)) action_content c.args.actions.now c.loop-action.action-index _ x c.loop-action.invariant c.loop-action-test.true c.action-item.is (named_not _ x.name c.if-differs.ensures)

pub returns : goal.returns
returns g c = rest_end c.loop-action.invariant c.loop-action-test.false
