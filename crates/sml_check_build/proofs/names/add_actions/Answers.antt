use Rattle.std.proofs.Common.{map, fold, ap, sym, subst, ◌≤◌, length}
use Rattle.sml_tree.specs.Content.{action_content}
use Rattle.sml_domain.specs.Names.{distinct_more}
use Rattle.sml_check_faults.proofs.Rests.{rest_none}
use Rattle.sml_check_build.specs.Numbers.{action_name}
use Rattle.sml_check_build.proofs.Gathered.{moves_of}
use Rattle.sml_check_build.proofs.names.add_actions.Goals as goal

pub loop-action-preserved : goal.loop-action-preserved
loop-action-preserved g c =
    let was = c.loop-action.names in
    let now = c.add.new.self in
    moves_of (λ ys. fold distinct_more was (map action_name (map action_content ys))) (λ ys. fold distinct_more now (map action_name (map action_content ys)))
    c.args.actions.now.items c.deref-action-items.result.now c.loop-action.action-index _ c.action-item.result c.loop-action.invariant c.deref-action-items.ensures.value c.loop-action-test.true c.action-item.is
    (λ zs. ap (λ n. fold distinct_more n (map action_name (map action_content zs))) (sym c.in_ok-add.ensures.added))

pub returns : goal.returns
returns g c =
    rest_none (λ ys. fold distinct_more c.loop-action.names (map action_name (map action_content ys))) c.args.actions.now.items c.loop-action.action-index _ c.loop-action.invariant
    (subst (λ ys. length ys ≤ c.loop-action.action-index) c.deref-action-items.ensures.value c.loop-action-test.false)
