use Rattle.sml_tree.specs.Content.{file_content, class_content}
use Rattle.sml_check_faults.specs.Faults.{own_object}
use Rattle.sml_check_faults.proofs.Rests.{rest_end}
use Rattle.sml_check_faults.proofs.Loops.{first_itself, first_after, named_so, named_not}
use Rattle.sml_check_faults.proofs.tables.Tables.own_object.Goals as goal

pub returns-then-is_of_class : goal.returns-then-is_of_class
returns-then-is_of_class g c = first_itself (own_object (file_content c.args.self.now.file.now) (class_content c.args.class.now)) c.args.objects.now c.loop-object.object-index _ c.object-item.result c.loop-object.invariant c.loop-object-test.true c.object-item.is c.object-item.result (named_so _ c.object-item.result c.if-is_of_class.ensures)

pub loop-object-preserved : goal.loop-object-preserved
loop-object-preserved g c = first_after (own_object (file_content c.args.self.now.file.now) (class_content c.args.class.now)) c.args.objects.now c.loop-object.object-index _ c.object-item.result c.loop-object.invariant c.loop-object-test.true c.object-item.is (named_not _ c.object-item.result c.if-is_of_class.ensures)

pub returns : goal.returns
returns g c = rest_end c.loop-object.invariant c.loop-object-test.false
