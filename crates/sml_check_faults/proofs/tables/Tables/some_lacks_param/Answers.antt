use Rattle.sml_tree.specs.Content.{file_content}
use Rattle.sml_check_faults.specs.Faults.{lacks_param_there}
use Rattle.sml_check_faults.proofs.Rests.{rest_end}
use Rattle.sml_check_faults.proofs.Loops.{any_itself, any_after}
use Rattle.sml_check_faults.proofs.tables.Tables.some_lacks_param.Goals as goal

pub returns-then-lacks_param : goal.returns-then-lacks_param
returns-then-lacks_param g c = any_itself (lacks_param_there (file_content c.args.self.now.file.now) c.args.action.now c.args.param.now) c.args.objects.now c.loop-object.object-index _ c.object-item.result c.loop-object.invariant c.loop-object-test.true c.object-item.is c.if-lacks_param.ensures

pub loop-object-preserved : goal.loop-object-preserved
loop-object-preserved g c = any_after (lacks_param_there (file_content c.args.self.now.file.now) c.args.action.now c.args.param.now) c.args.objects.now c.loop-object.object-index _ c.object-item.result c.loop-object.invariant c.loop-object-test.true c.object-item.is c.if-lacks_param.ensures

pub returns : goal.returns
returns g c = rest_end c.loop-object.invariant c.loop-object-test.false
