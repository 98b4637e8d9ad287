use Rattle.std.proofs.Common.{[], ◌∙◌, sym, ap, map, take}
use Rattle.std.specs.List.{list_any}
use Rattle.sml_tree.specs.Content.{action_content, class_content, state_content}
use Rattle.sml_check_faults.specs.Lookup.{first_item, is_state_named}
use Rattle.sml_check_faults.specs.Repeats.{each_after, repeated_action, repeated_state}
use Rattle.sml_check_faults.proofs.Rests.{each_here, each_next, where_not, past_end}
use Rattle.sml_check_faults.proofs.Loops.{named_first}
use Rattle.sml_check_faults.proofs.tables.Tables.repeated_state.Goals as goal

pub returns-in-Some : goal.returns-in-Some
returns-in-Some g c =
    let k = class_content c.args.class.now in
    let x = state_content c.index-states-i.result in
    let before = map state_content (take c.loop-i.i c.args.states.now) in
    each_here (repeated_state k) state_content c.args.states.now c.loop-i.i _ c.index-states-i.result c.loop-i.invariant c.loop-i-test.true c.index-states-i.is c.in-Some.name
    (c.in-Some.ensures ∙ ap (λ ys. first_item (each_after (repeated_action k) [] (map action_content ys))) c.deref.ensures.value
    ∙ sym (where_not (list_any (is_state_named x.name) before) x.name (each_after (repeated_action k) [] x.actions) c.if-declares_state.ensures))

pub loop-i-preserved : goal.loop-i-preserved
loop-i-preserved g c =
    let k = class_content c.args.class.now in
    let x = state_content c.index-states-i.result in
    let before = map state_content (take c.loop-i.i c.args.states.now) in
    each_next (repeated_state k) state_content c.args.states.now c.loop-i.i _ c.index-states-i.result c.loop-i.invariant c.loop-i-test.true c.index-states-i.is
    (c.in_default.ensures ∙ ap (λ ys. first_item (each_after (repeated_action k) [] (map action_content ys))) c.deref.ensures.value
    ∙ sym (where_not (list_any (is_state_named x.name) before) x.name (each_after (repeated_action k) [] x.actions) c.if-declares_state.ensures))

pub returns : goal.returns
returns g c = past_end c.loop-i.invariant c.loop-i-test.false

pub returns-then-declares_state : goal.returns-then-declares_state
returns-then-declares_state g c =
    let k = class_content c.args.class.now in
    let x = state_content c.index-states-i.result in
    each_here (repeated_state k) state_content c.args.states.now c.loop-i.i _ c.index-states-i.result c.loop-i.invariant c.loop-i-test.true c.index-states-i.is x.name
    (named_first (list_any (is_state_named x.name) (map state_content (take c.loop-i.i c.args.states.now))) x.name (each_after (repeated_action k) [] x.actions) c.if-declares_state.ensures)
