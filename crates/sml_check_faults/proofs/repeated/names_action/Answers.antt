use Rattle.std.proofs.Common.{refl, map}
use Rattle.std.specs.List.{list_any}
use Rattle.sml_tree.specs.Content.{action_content}
use Rattle.sml_check_faults.specs.Lookup.{is_action_named}
use Rattle.sml_check_faults.proofs.Rests.{rest_none}
use Rattle.sml_check_faults.proofs.Loops.{any_one, any_more}
use Rattle.sml_check_faults.proofs.repeated.names_action.Goals as goal

pub returns-then-is_name : goal.returns-then-is_name
returns-then-is_name g c = any_one (is_action_named c.args.name.now) action_content c.args.actions.now c.loop-action.action-index _ c.action-item.result c.loop-action.invariant c.loop-action-test.true c.action-item.is c.if-is_name.ensures

pub loop-action-preserved : goal.loop-action-preserved
loop-action-preserved g c = any_more (is_action_named c.args.name.now) action_content c.args.actions.now c.loop-action.action-index _ c.action-item.result c.loop-action.invariant c.loop-action-test.true c.action-item.is c.if-is_name.ensures

pub loop-action-init : goal.loop-action-init
loop-action-init g c = record { is = refl }

pub returns : goal.returns
returns g c = rest_none (λ ys. list_any (is_action_named c.args.name.now) (map action_content ys)) c.args.actions.now c.loop-action.action-index _ c.loop-action.invariant c.loop-action-test.false
