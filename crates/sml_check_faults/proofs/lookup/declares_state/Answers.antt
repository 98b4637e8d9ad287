use Rattle.sml_tree.specs.Content.{state_content}
use Rattle.sml_check_faults.specs.Lookup.{is_state_named}
use Rattle.sml_check_faults.proofs.Loops.{any_one, any_more}
use Rattle.sml_check_faults.proofs.Rests.{rest_end}
use Rattle.sml_check_faults.proofs.lookup.declares_state.Goals as goal

pub returns-then-is_name : goal.returns-then-is_name
returns-then-is_name g c = any_one (is_state_named c.args.state.now) state_content c.args.states.now c.loop-declared.declared-index _ c.declared-item.result c.loop-declared.invariant c.loop-declared-test.true c.declared-item.is c.if-is_name.ensures

pub loop-declared-preserved : goal.loop-declared-preserved
loop-declared-preserved g c = any_more (is_state_named c.args.state.now) state_content c.args.states.now c.loop-declared.declared-index _ c.declared-item.result c.loop-declared.invariant c.loop-declared-test.true c.declared-item.is c.if-is_name.ensures

pub returns : goal.returns
returns g c = rest_end c.loop-declared.invariant c.loop-declared-test.false
