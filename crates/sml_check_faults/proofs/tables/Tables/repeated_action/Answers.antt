use Rattle.std.proofs.Common.{◌∙◌, sym, map, take}
use Rattle.std.specs.List.{list_any}
use Rattle.sml_tree.specs.Content.{action_content, class_content}
use Rattle.sml_check_faults.specs.Lookup.{is_action_named}
use Rattle.sml_check_faults.specs.Repeats.{repeated_action, repeated_in_action}
use Rattle.sml_check_faults.proofs.Rests.{each_here, each_next, where_not, past_end}
use Rattle.sml_check_faults.proofs.Loops.{named_first}
use Rattle.sml_check_faults.proofs.tables.Tables.repeated_action.Goals as goal

pub returns-then-names_action : goal.returns-then-names_action
returns-then-names_action g c =
    let k = class_content c.args.class.now in
    let x = action_content c.index-actions-i.result in
    each_here (repeated_action k) action_content c.args.actions.now c.loop-i.i _ c.index-actions-i.result c.loop-i.invariant c.loop-i-test.true c.index-actions-i.is x.name
    (named_first (list_any (is_action_named x.name) (map action_content (take c.loop-i.i c.args.actions.now))) x.name (repeated_in_action k x) c.if-names_action.ensures)

pub returns-in-Some : goal.returns-in-Some
returns-in-Some g c =
    let k = class_content c.args.class.now in
    let x = action_content c.index-actions-i.result in
    let before = map action_content (take c.loop-i.i c.args.actions.now) in
    each_here (repeated_action k) action_content c.args.actions.now c.loop-i.i _ c.index-actions-i.result c.loop-i.invariant c.loop-i-test.true c.index-actions-i.is c.in-Some.name
    (c.in-Some.ensures ∙ sym (where_not (list_any (is_action_named x.name) before) x.name (repeated_in_action k x) c.if-names_action.ensures))

pub loop-i-preserved : goal.loop-i-preserved
loop-i-preserved g c =
    let k = class_content c.args.class.now in
    let x = action_content c.index-actions-i.result in
    let before = map action_content (take c.loop-i.i c.args.actions.now) in
    each_next (repeated_action k) action_content c.args.actions.now c.loop-i.i _ c.index-actions-i.result c.loop-i.invariant c.loop-i-test.true c.index-actions-i.is
    (c.in_default.ensures ∙ sym (where_not (list_any (is_action_named x.name) before) x.name (repeated_in_action k x) c.if-names_action.ensures))

pub returns : goal.returns
returns g c = past_end c.loop-i.invariant c.loop-i-test.false
