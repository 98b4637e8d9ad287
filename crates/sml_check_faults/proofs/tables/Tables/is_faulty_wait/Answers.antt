use Rattle.std.proofs.Common.{[]}
use Rattle.sml_tree.specs.Content.{class_content, file_content, waited_content}
use Rattle.sml_check_faults.specs.Lookup.{objects_meant}
use Rattle.sml_check_faults.specs.InBlocks.{is_faulty_test}
use Rattle.sml_check_faults.proofs.Rests.{rest_end}
use Rattle.sml_check_faults.proofs.Loops.{any_one, any_more}
use Rattle.sml_check_faults.proofs.tables.Tables.is_faulty_wait.Goals as goal

pub returns-then-is_faulty_test : goal.returns-then-is_faulty_test
returns-then-is_faulty_test g c =
    let file = file_content c.args.self.now.file.now in
    any_one (λ w. is_faulty_test file (class_content c.args.class.now) w.all w.name [] (objects_meant file w.all w.name)) waited_content c.args.waited.now c.loop-one.one-index _ c.one-item.result c.loop-one.invariant c.loop-one-test.true c.one-item.is c.if-is_faulty_test.ensures

pub loop-one-preserved : goal.loop-one-preserved
loop-one-preserved g c =
    let file = file_content c.args.self.now.file.now in
    any_more (λ w. is_faulty_test file (class_content c.args.class.now) w.all w.name [] (objects_meant file w.all w.name)) waited_content c.args.waited.now c.loop-one.one-index _ c.one-item.result c.loop-one.invariant c.loop-one-test.true c.one-item.is c.if-is_faulty_test.ensures

pub returns : goal.returns
returns g c = rest_end c.loop-one.invariant c.loop-one-test.false
