use Rattle.std.proofs.Common.{◌∙◌, ap, flat_map, map, refl}
use Rattle.sml_tree.specs.Content.{action_content, file_content, state_content}
use Rattle.sml_check_faults.specs.Lookup.{first_item, actions_of}
use Rattle.sml_check_faults.specs.Heads.{other_params}
use Rattle.sml_check_faults.specs.Tables.{file_class_at}
use Rattle.sml_check_faults.proofs.Rests.{first_here, first_next, first_in-append, rest_end}
use Rattle.sml_check_faults.proofs.tables.Tables.other_in_states.Goals as goal

pub returns-in-Some : goal.returns-in-Some
returns-in-Some g c =
    let f = other_params (file_class_at (file_content c.args.self.now.file.now) c.args.class) in
    first_here (λ ys. first_item (flat_map f (flat_map actions_of (map state_content ys)))) c.args.states.now c.args.states.now c.loop-state.state-index _ c.state-item.result (first_item (flat_map f (state_content c.state-item.result).actions))
    c.loop-state.invariant refl c.loop-state-test.true c.state-item.is (λ zs. first_in-append f (state_content c.state-item.result).actions (flat_map actions_of (map state_content zs))) c.in-Some.name
    (c.in-Some.ensures ∙ ap (λ es. first_item (flat_map f (map action_content es))) c.deref.ensures.value)

pub loop-state-preserved : goal.loop-state-preserved
loop-state-preserved g c =
    let f = other_params (file_class_at (file_content c.args.self.now.file.now) c.args.class) in
    first_next (λ ys. first_item (flat_map f (flat_map actions_of (map state_content ys)))) c.args.states.now c.args.states.now c.loop-state.state-index _ c.state-item.result (first_item (flat_map f (state_content c.state-item.result).actions))
    c.loop-state.invariant refl c.loop-state-test.true c.state-item.is (λ zs. first_in-append f (state_content c.state-item.result).actions (flat_map actions_of (map state_content zs)))
    (c.in_default.ensures ∙ ap (λ es. first_item (flat_map f (map action_content es))) c.deref.ensures.value)

pub returns : goal.returns
returns g c = rest_end c.loop-state.invariant c.loop-state-test.false
