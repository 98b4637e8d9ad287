use Rattle.std.proofs.Common.{map, Some, refl, subst, ◌≤◌, length}
use Rattle.std.specs.Prelude.{find, option_map}
use Rattle.sml_tree.specs.Content.{state_content}
use Rattle.sml_check_faults.specs.Heads.{is_initial}
use Rattle.sml_check_faults.proofs.Rests.{more_of, here_of, rest_none}
use Rattle.sml_check_build.specs.Numbers.{state_name}
use Rattle.sml_check_build.proofs.marks.marked_initial.Goals as goal

-- a state without the mark
pub loop-state-preserved : goal.loop-state-preserved
loop-state-preserved g c =
    more_of (λ ys. option_map state_name (find is_initial (map state_content ys))) c.args.states.now.items c.deref-state-items.result.now c.loop-state.state-index _ c.state-item.result
    c.loop-state.invariant c.deref-state-items.ensures.value c.loop-state-test.true c.state-item.is (λ zs. rw c.if-state.false refl)

-- the first with it
pub returns-then-state : goal.returns-then-state
returns-then-state g c =
    here_of (λ ys. option_map state_name (find is_initial (map state_content ys))) c.args.states.now.items c.deref-state-items.result.now c.loop-state.state-index _ c.state-item.result
    c.loop-state.invariant c.deref-state-items.ensures.value c.loop-state-test.true c.state-item.is (Some c.state-item.result.name) (λ zs. rw c.if-state.true refl)

-- none
pub returns : goal.returns
returns g c =
    rest_none (λ ys. option_map state_name (find is_initial (map state_content ys))) c.args.states.now.items c.loop-state.state-index _ c.loop-state.invariant
    (subst (λ ys. length ys ≤ c.loop-state.state-index) c.deref-state-items.ensures.value c.loop-state-test.false)
