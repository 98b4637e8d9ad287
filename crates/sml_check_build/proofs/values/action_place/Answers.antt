use Rattle.std.proofs.Common.{sym, map}
use Rattle.std.proofs.lemmas.Iterator.Adapters.{position_from-zero}
use Rattle.sml_check_faults.specs.Lookup.{is_action_param}
use Rattle.sml_tree.specs.Content.{action_param_content}
use Rattle.sml_check_build.proofs.Positions.{place_next, place_here, no_place}
use Rattle.sml_check_build.proofs.values.action_place.Goals as goal

pub loop-i-init : goal.loop-i-init
loop-i-init g c = sym (position_from-zero (is_action_param c.args.name.now) (map action_param_content c.args.action.now.params.items))

pub loop-i-preserved : goal.loop-i-preserved
loop-i-preserved g c = place_next (is_action_param c.args.name.now) action_param_content c.args.action.now.params.items c.deref-param-items.result.now c.loop-i.i _ c.loop-i.invariant c.deref-param-items.ensures.value c.param-item.result c.loop-i-test.true c.param-item.is c.if-eq.ensures

pub returns-then-eq : goal.returns-then-eq
returns-then-eq g c = place_here (is_action_param c.args.name.now) action_param_content c.args.action.now.params.items c.deref-param-items.result.now c.loop-i.i _ c.loop-i.invariant c.deref-param-items.ensures.value c.param-item.result c.loop-i-test.true c.param-item.is c.if-eq.ensures

pub returns : goal.returns
returns g c = no_place (is_action_param c.args.name.now) action_param_content c.args.action.now.params.items c.deref-param-items.result.now c.loop-i.i _ c.loop-i.invariant c.deref-param-items.ensures.value c.loop-i-test.false
