use Rattle.std.proofs.Common.{◌∙◌, ap, subst, map, nat_eq, option_map}
use Rattle.std.specs.Cmp.Lexicographic.{pointwise}
use Rattle.std.proofs.lemmas.List.{take_all}
use Rattle.indexmap.specs.IndexMap.{get}
use Rattle.sml_tree.specs.Content.{state_content, action_content}
use Rattle.sml_check_faults.specs.Lookup.{is_action_named}
use Rattle.sml_check_faults.specs.Tables.{HasActions, first_or_else, in_state, place_of}
use Rattle.sml_check_faults.proofs.ActionPlaces.{state_noted}
use Rattle.sml_check_faults.proofs.actions.states_table.Goals as goal

pub loop-i-preserved : goal.loop-i-preserved
loop-i-preserved g c = λ q.
    let i = c.loop-i.i in
    let was = get (pointwise nat_eq) c.loop-i.table q in
    state_noted state_content c.args.states.now i c.index-states-i.result q was _ c.loop-i-test.true c.index-states-i.is (c.loop-i.invariant q)
    (c.in_ok-note_actions.ensures.noted q ∙ ap (λ ys. first_or_else was (option_map (in_state i) (place_of (is_action_named q) (map action_content ys)))) c.deref.ensures.value)

pub returns : goal.returns
returns g c = subst (λ xs. HasActions (map state_content xs) c.loop-i.table) (take_all c.loop-i.i c.args.states.now c.loop-i-test.false) c.loop-i.invariant
