use Rattle.std.proofs.Common.{map, ap, sym, subst, ◌≤◌, length}
use Rattle.sml_check_faults.proofs.Rests.{rest_none}
use Rattle.sml_check_build.specs.Signed.{with_actions}
use Rattle.sml_check_build.proofs.Gathered.{moves_of}
use Rattle.sml_tree.specs.Content.{action_content}
use Rattle.sml_check_build.specs.Placed.{SignaturePlaced}
use Rattle.sml_check_build.proofs.Elements.{all_of}
use Rattle.sml_check_build.proofs.signatures.add_actions.Goals as goal

pub add_action-requires : goal.add_action-requires
add_action-requires g c = all_of (SignaturePlaced c.args.names.now) action_content c.args.actions.now.items c.deref-action-items.result.now c.loop-action.action-index c.action-item.result c.requires c.deref-action-items.ensures.value c.loop-action-test.true c.action-item.is

pub loop-action-preserved : goal.loop-action-preserved
loop-action-preserved g c =
    let n = c.args.names.now in
    let was = c.loop-action.made in
    let now = c.add_action.new.made in
    moves_of (λ ys. with_actions n was (map action_content ys)) (λ ys. with_actions n now (map action_content ys)) c.args.actions.now.items c.deref-action-items.result.now c.loop-action.action-index _ c.action-item.result
    c.loop-action.invariant c.deref-action-items.ensures.value c.loop-action-test.true c.action-item.is (λ zs. ap (λ m. with_actions n m (map action_content zs)) (sym c.in_ok-add_action.ensures))

pub returns : goal.returns
returns g c =
    rest_none (λ ys. with_actions c.args.names.now c.loop-action.made (map action_content ys)) c.args.actions.now.items c.loop-action.action-index _ c.loop-action.invariant
    (subst (λ ys. length ys ≤ c.loop-action.action-index) c.deref-action-items.ensures.value c.loop-action-test.false)
