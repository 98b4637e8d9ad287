use Rattle.std.proofs.Common.{◌∙◌, ◌||◌, true, map, ap, sym, subst, ◌≤◌, length}
use Rattle.std.specs.List.{list_any}
use Rattle.sml_tree.specs.Content.{state_content}
use Rattle.sml_check_faults.specs.Lookup as look
use Rattle.sml_check_faults.proofs.Rests.{more_of, here_of, rest_none}
use Rattle.sml_check_build.proofs.marks.has_dead.Goals as goal
use Rattle.sml_check_build.proofs.marks.has_dead.Goals.{then-state-via-then-state, then-state-via-else-state+then-eq}

-- a state that is not a dead one
pub loop-state-preserved : goal.loop-state-preserved
loop-state-preserved g c =
    let name = c.state-item.result.name in
    more_of (λ ys. list_any look.is_dead (map state_content ys)) c.args.states.now.items c.deref-state-items.result.now c.loop-state.state-index _ c.state-item.result
    c.loop-state.invariant c.deref-state-items.ensures.value c.loop-state-test.true c.state-item.is
    (λ zs. ap (λ b. (b || look.named look.dead_name name) || list_any look.is_dead (map state_content zs)) c.if-state.false
    ∙ ap (λ n. look.named n name || list_any look.is_dead (map state_content zs)) (sym c.dead_name-dead.ensures)
    ∙ ap (λ b. b || list_any look.is_dead (map state_content zs)) (sym c.if-eq.ensures))

-- one that is marked, or has the name
pub returns-then-state : goal.returns-then-state
returns-then-state g c =
    let name = c.state-item.result.name in
    here_of (λ ys. list_any look.is_dead (map state_content ys)) c.args.states.now.items c.deref-state-items.result.now c.loop-state.state-index _ c.state-item.result
    c.loop-state.invariant c.deref-state-items.ensures.value c.loop-state-test.true c.state-item.is true
    (λ zs. elim c.then-state.branch [
      | then-state-via-then-state w ↦ ap (λ b. (b || look.named look.dead_name name) || list_any look.is_dead (map state_content zs)) w.if-state.true
      | then-state-via-else-state+then-eq w ↦
          ap (λ b. (b || look.named look.dead_name name) || list_any look.is_dead (map state_content zs)) w.if-state.false
          ∙ ap (λ n. look.named n name || list_any look.is_dead (map state_content zs)) (sym c.dead_name-dead.ensures)
          ∙ ap (λ b. b || list_any look.is_dead (map state_content zs)) (sym w.if-eq.ensures)
    ])

-- none
pub returns : goal.returns
returns g c =
    rest_none (λ ys. list_any look.is_dead (map state_content ys)) c.args.states.now.items c.loop-state.state-index _ c.loop-state.invariant
    (subst (λ ys. length ys ≤ c.loop-state.state-index) c.deref-state-items.ensures.value c.loop-state-test.false)
