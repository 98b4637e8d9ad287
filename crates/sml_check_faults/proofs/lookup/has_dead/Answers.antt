use Rattle.std.proofs.Common.{◌∙◌, ap, ◌||◌}
use Rattle.sml_tree.specs.Content.{state_content}
use Rattle.sml_check_faults.specs.Lookup.{named, is_dead}
use Rattle.sml_check_faults.proofs.Loops.{any_one, any_more}
use Rattle.sml_check_faults.proofs.Rests.{rest_end}
use Rattle.sml_check_faults.proofs.lookup.has_dead.Goals as goal

pub returns-then-is_dead : goal.returns-then-is_dead
returns-then-is_dead g c =
    let x = c.state-item.result in
    any_one is_dead state_content c.args.states.now c.loop-state.state-index _ x c.loop-state.invariant c.loop-state-test.true c.state-item.is
    (c.if-is_dead.ensures ∙ ap (λ d. x.dead || named d x.name) c.dead_name-dead.ensures)

pub loop-state-preserved : goal.loop-state-preserved
loop-state-preserved g c =
    let x = c.state-item.result in
    any_more is_dead state_content c.args.states.now c.loop-state.state-index _ x c.loop-state.invariant c.loop-state-test.true c.state-item.is
    (c.if-is_dead.ensures ∙ ap (λ d. x.dead || named d x.name) c.dead_name-dead.ensures)

pub returns : goal.returns
returns g c = rest_end c.loop-state.invariant c.loop-state-test.false
