use Rattle.sml_tree.specs.Content.{passed_content}
use Rattle.sml_check_faults.specs.Repeats.{repeated_passed}
use Rattle.sml_check_faults.proofs.Rests.{each_here, each_next, past_end}
use Rattle.sml_check_faults.proofs.Loops.{named_so, named_not}
use Rattle.sml_check_faults.proofs.repeated.repeated_passed.Goals as goal

pub returns-then-passes : goal.returns-then-passes
returns-then-passes g c =
    let x = passed_content c.index-args-i.result in
    each_here repeated_passed passed_content c.args.args.now c.loop-i.i _ c.index-args-i.result c.loop-i.invariant c.loop-i-test.true c.index-args-i.is x.name
    (named_so _ x.name c.if-passes.ensures)

pub loop-i-preserved : goal.loop-i-preserved
loop-i-preserved g c =
    let x = passed_content c.index-args-i.result in
    each_next repeated_passed passed_content c.args.args.now c.loop-i.i _ c.index-args-i.result c.loop-i.invariant c.loop-i-test.true c.index-args-i.is
    (named_not _ x.name c.if-passes.ensures)

pub returns : goal.returns
returns g c = past_end c.loop-i.invariant c.loop-i-test.false
