use Rattle.std.proofs.Common.{◌∙◌, sym, ap, map, flat_map, refl}
use Rattle.std.specs.List.{list_any}
use Rattle.std.proofs.lemmas.List.Folds.{list_any-append}
use Rattle.sml_tree.specs.Content.{file_content, class_content, state_content, action_content}
use Rattle.sml_check_faults.specs.Lookup.{actions_of}
use Rattle.sml_check_faults.specs.InBlocks.{is_faulty_action}
use Rattle.sml_check_faults.proofs.InBlocks.{any_here, any_next}
use Rattle.sml_check_faults.proofs.Rests.{rest_end}
use Rattle.sml_check_faults.proofs.tables.Tables.has_faulty_state.Goals as goal

pub returns-then-has_faulty_action : goal.returns-then-has_faulty_action
returns-then-has_faulty_action g c =
    let p = is_faulty_action (file_content c.args.self.now.file.now) (class_content c.args.class.now) in
    let own = (state_content c.state-item.result).actions in
    any_here (λ ys. list_any p (flat_map actions_of (map state_content ys))) c.args.states.now c.args.states.now c.loop-state.state-index _ c.state-item.result (list_any p own)
    c.loop-state.invariant refl c.loop-state-test.true c.state-item.is (λ zs. list_any-append p own (flat_map actions_of (map state_content zs)))
    (ap (λ es. list_any p (map action_content es)) (sym c.deref.ensures.value) ∙ sym c.has_faulty_action.ensures ∙ c.if-has_faulty_action.true)

pub loop-state-preserved : goal.loop-state-preserved
loop-state-preserved g c =
    let p = is_faulty_action (file_content c.args.self.now.file.now) (class_content c.args.class.now) in
    let own = (state_content c.state-item.result).actions in
    any_next (λ ys. list_any p (flat_map actions_of (map state_content ys))) c.args.states.now c.args.states.now c.loop-state.state-index _ c.state-item.result (list_any p own)
    c.loop-state.invariant refl c.loop-state-test.true c.state-item.is (λ zs. list_any-append p own (flat_map actions_of (map state_content zs)))
    (ap (λ es. list_any p (map action_content es)) (sym c.deref.ensures.value) ∙ sym c.has_faulty_action.ensures ∙ c.if-has_faulty_action.false)

pub returns : goal.returns
returns g c = rest_end c.loop-state.invariant c.loop-state-test.false
