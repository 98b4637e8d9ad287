use Rattle.std.proofs.Common.{◌∙◌, map, flat_map, ap, sym, subst, ◌≤◌, length}
use Rattle.std.proofs.lemmas.List.Sums.{fold-append}
use Rattle.sml_check_faults.specs.Lookup.{actions_of}
use Rattle.sml_check_faults.proofs.Rests.{rest_none}
use Rattle.sml_check_build.specs.Signed.{with_action, with_actions}
use Rattle.sml_check_build.proofs.Gathered.{moves_of}
use Rattle.sml_tree.specs.Content.{state_content}
use Rattle.sml_check_build.specs.Placed.{StateSigned}
use Rattle.sml_check_build.proofs.Elements.{all_of}
use Rattle.sml_check_build.proofs.signatures.add_states.Goals as goal

pub add_actions-requires : goal.add_actions-requires
add_actions-requires g c = all_of (StateSigned c.args.names.now) state_content c.args.states.now.items c.deref-state-items.result.now c.loop-state.state-index c.state-item.result c.requires c.deref-state-items.ensures.value c.loop-state-test.true c.state-item.is

pub loop-state-preserved : goal.loop-state-preserved
loop-state-preserved g c =
    let n = c.args.names.now in
    let was = c.loop-state.made in
    let now = c.add_actions.new.made in
    moves_of (λ ys. with_actions n was (flat_map actions_of (map state_content ys))) (λ ys. with_actions n now (flat_map actions_of (map state_content ys))) c.args.states.now.items c.deref-state-items.result.now c.loop-state.state-index _ c.state-item.result
    c.loop-state.invariant c.deref-state-items.ensures.value c.loop-state-test.true c.state-item.is
    (λ zs. fold-append (with_action n) was (actions_of (state_content c.state-item.result)) (flat_map actions_of (map state_content zs))
    ∙ ap (λ m. with_actions n m (flat_map actions_of (map state_content zs))) (sym c.in_ok-add_actions.ensures))

pub returns : goal.returns
returns g c =
    rest_none (λ ys. with_actions c.args.names.now c.loop-state.made (flat_map actions_of (map state_content ys))) c.args.states.now.items c.loop-state.state-index _ c.loop-state.invariant
    (subst (λ ys. length ys ≤ c.loop-state.state-index) c.deref-state-items.ensures.value c.loop-state-test.false)
