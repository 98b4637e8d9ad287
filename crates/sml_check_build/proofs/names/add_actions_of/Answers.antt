use Rattle.std.proofs.Common.{map, flat_map, fold, ap, sym, subst, ◌∙◌, ◌≤◌, length}
use Rattle.sml_tree.specs.Content.{state_content}
use Rattle.sml_domain.specs.Names.{distinct_more}
use Rattle.sml_check_faults.specs.Lookup.{actions_of}
use Rattle.sml_check_faults.proofs.Rests.{rest_none}
use Rattle.sml_check_build.specs.Numbers.{action_name}
use Rattle.sml_check_build.proofs.Foldings.{more_named}
use Rattle.sml_check_build.proofs.Gathered.{moves_of}
use Rattle.sml_check_build.proofs.names.add_actions_of.Goals as goal

pub loop-state-preserved : goal.loop-state-preserved
loop-state-preserved g c =
    let was = c.loop-state.names in
    let now = c.add_actions.new.names in
    moves_of (λ ys. fold distinct_more was (map action_name (flat_map actions_of (map state_content ys)))) (λ ys. fold distinct_more now (map action_name (flat_map actions_of (map state_content ys))))
    c.args.states.now.items c.deref-state-items.result.now c.loop-state.state-index _ c.state-item.result c.loop-state.invariant c.deref-state-items.ensures.value c.loop-state-test.true c.state-item.is
    (λ zs. more_named action_name was (actions_of (state_content c.state-item.result)) (flat_map actions_of (map state_content zs))
    ∙ ap (λ n. fold distinct_more n (map action_name (flat_map actions_of (map state_content zs)))) (sym c.in_ok-add_actions.ensures))

pub returns : goal.returns
returns g c =
    rest_none (λ ys. fold distinct_more c.loop-state.names (map action_name (flat_map actions_of (map state_content ys)))) c.args.states.now.items c.loop-state.state-index _ c.loop-state.invariant
    (subst (λ ys. length ys ≤ c.loop-state.state-index) c.deref-state-items.ensures.value c.loop-state-test.false)
