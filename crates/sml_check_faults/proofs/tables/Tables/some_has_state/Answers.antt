use Rattle.sml_tree.specs.Content.{file_content}
use Rattle.sml_check_faults.specs.Faults.{object_has_state}
use Rattle.sml_check_faults.proofs.Rests.{rest_end}
use Rattle.sml_check_faults.proofs.Loops.{any_itself, any_after}
use Rattle.sml_check_faults.proofs.tables.Tables.some_has_state.Goals as goal

pub returns-then-object_has_state : goal.returns-then-object_has_state
returns-then-object_has_state g c = any_itself (object_has_state (file_content c.args.self.now.file.now) c.args.state.now) c.args.objects.now c.loop-object.object-index _ c.object-item.result c.loop-object.invariant c.loop-object-test.true c.object-item.is c.if-object_has_state.ensures

pub loop-object-preserved : goal.loop-object-preserved
loop-object-preserved g c = any_after (object_has_state (file_content c.args.self.now.file.now) c.args.state.now) c.args.objects.now c.loop-object.object-index _ c.object-item.result c.loop-object.invariant c.loop-object-test.true c.object-item.is c.if-object_has_state.ensures

pub returns : goal.returns
returns g c = rest_end c.loop-object.invariant c.loop-object-test.false
