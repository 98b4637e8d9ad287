use Rattle.std.proofs.Common.{ap, not}
use Rattle.sml_tree.specs.Content.{file_content}
use Rattle.sml_check_faults.specs.Faults.{state_of_none}
use Rattle.sml_check_faults.proofs.Rests.{rest_end}
use Rattle.sml_check_faults.proofs.Loops.{first_itself, first_after, named_so, named_not}
use Rattle.sml_check_faults.proofs.tables.Tables.state_of_none.Goals as goal

pub returns-then-not-some_has_state : goal.returns-then-not-some_has_state
returns-then-not-some_has_state g c =
    first_itself (state_of_none (file_content c.args.self.now.file.now) c.args.objects.now) c.args.states.now c.loop-state.state-index _ c.state-item.result c.loop-state.invariant c.loop-state-test.true c.state-item.is c.state-item.result
    (named_so _ c.state-item.result (ap not c.if-not-some_has_state.ensures))

pub loop-state-preserved : goal.loop-state-preserved
loop-state-preserved g c =
    first_after (state_of_none (file_content c.args.self.now.file.now) c.args.objects.now) c.args.states.now c.loop-state.state-index _ c.state-item.result c.loop-state.invariant c.loop-state-test.true c.state-item.is
    (named_not _ c.state-item.result (ap not c.if-not-some_has_state.ensures))

pub returns : goal.returns
returns g c = rest_end c.loop-state.invariant c.loop-state-test.false
