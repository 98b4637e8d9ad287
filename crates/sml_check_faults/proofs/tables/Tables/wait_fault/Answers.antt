use Rattle.std.proofs.Common.{[]}
use Rattle.sml_tree.specs.Content.{class_content, file_content, waited_content}
use Rattle.sml_check_faults.specs.Kinds.{test_faults}
use Rattle.sml_check_faults.proofs.Rests.{rest_end}
use Rattle.sml_check_faults.proofs.Loops.{first_one, first_more}
use Rattle.sml_check_faults.proofs.tables.Tables.wait_fault.Goals as goal

pub returns-in-Some : goal.returns-in-Some
returns-in-Some g c = first_one (λ w. test_faults c.args.kind (file_content c.args.self.now.file.now) (class_content c.args.class.now) w.all w.name []) waited_content c.args.waited.now c.loop-one.one-index _ c.one-item.result c.loop-one.invariant c.loop-one-test.true c.one-item.is c.in-Some.name c.in-Some.ensures

pub loop-one-preserved : goal.loop-one-preserved
loop-one-preserved g c = first_more (λ w. test_faults c.args.kind (file_content c.args.self.now.file.now) (class_content c.args.class.now) w.all w.name []) waited_content c.args.waited.now c.loop-one.one-index _ c.one-item.result c.loop-one.invariant c.loop-one-test.true c.one-item.is c.in_default.ensures

pub returns : goal.returns
returns g c = rest_end c.loop-one.invariant c.loop-one-test.false
