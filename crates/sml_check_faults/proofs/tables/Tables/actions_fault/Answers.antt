use Rattle.sml_tree.specs.Content.{action_content, class_content, file_content}
use Rattle.sml_check_faults.specs.Kinds.{action_faults}
use Rattle.sml_check_faults.proofs.Loops.{first_one, first_more}
use Rattle.sml_check_faults.proofs.Rests.{rest_end}
use Rattle.sml_check_faults.proofs.tables.Tables.actions_fault.Goals as goal

pub returns-in-Some : goal.returns-in-Some
returns-in-Some g c = first_one (action_faults c.args.kind (file_content c.args.self.now.file.now) (class_content c.args.class.now)) action_content c.args.actions.now c.loop-action.action-index _ c.action-item.result c.loop-action.invariant c.loop-action-test.true c.action-item.is c.in-Some.name c.in-Some.ensures

pub loop-action-preserved : goal.loop-action-preserved
loop-action-preserved g c = first_more (action_faults c.args.kind (file_content c.args.self.now.file.now) (class_content c.args.class.now)) action_content c.args.actions.now c.loop-action.action-index _ c.action-item.result c.loop-action.invariant c.loop-action-test.true c.action-item.is c.in_default.ensures

pub returns : goal.returns
returns g c = rest_end c.loop-action.invariant c.loop-action-test.false
