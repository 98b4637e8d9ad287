use Rattle.std.proofs.Common.{◌≡◌, ◌∙◌, [], ◌∷◌, ◌++◌, ◌≤◌, length, map, ap, refl, subst}
use Rattle.sml_tree.specs.Content.{action_content, class_content}
use Rattle.sml_check_build.specs.Placed.{ActionPlaced}
use Rattle.sml_check_build.specs.Layout.{rows_from, blocks_from, action_laid, action_blocks, blocks_of_action}
use Rattle.sml_check_build.proofs.Elements.{all_of}
use Rattle.sml_check_build.proofs.Gathered.{moves_of, gathered_all}
use Rattle.sml_check_build.proofs.Layouts.{action_long, more_rows, more_blocks, one_block}
use Rattle.sml_check_build.proofs.classes.action_rows.Goals as goal

pub action_row-requires : goal.action_row-requires
action_row-requires g c = all_of (ActionPlaced c.args.names.now (class_content c.args.class.now)) action_content c.args.actions.now.items c.deref-action-items.result.now c.loop-action.action-index c.action-item.result c.requires c.deref-action-items.ensures.value c.loop-action-test.true c.action-item.is

pub loop-action-preserved : goal.loop-action-preserved
loop-action-preserved g c =
    let n = c.args.names.now in
    let k = class_content c.args.class.now in
    let was = c.loop-action.blocks in
    let now = c.action_row.new.blocks in
    let made = c.loop-action.made.items in
    let next = c.push.new.self.items in
    let x = action_content c.action-item.result in
    let adds : next ≡ made ++ rows_from (action_laid n k) blocks_of_action (length was) (x ∷ []) = c.in_ok-push.ensures.items ∙ ap (λ r. made ++ r ∷ []) c.in_ok-action_row.ensures.is in
    let grown = one_block (action_blocks n k) blocks_of_action (action_long n k) was now x c.in_ok-action_row.ensures.blocks in
    record {
      rows = moves_of (λ ys. made ++ rows_from (action_laid n k) blocks_of_action (length was) (map action_content ys)) (λ ys. next ++ rows_from (action_laid n k) blocks_of_action (length now) (map action_content ys))
          c.args.actions.now.items c.deref-action-items.result.now c.loop-action.action-index _ c.action-item.result c.loop-action.invariant.rows c.deref-action-items.ensures.value c.loop-action-test.true c.action-item.is
          (λ zs. more_rows (action_blocks n k) blocks_of_action (action_long n k) was now (x ∷ []) (map action_content zs) grown (action_laid n k) made next adds);
      blocks = moves_of (λ ys. was ++ blocks_from (action_blocks n k) blocks_of_action (length was) (map action_content ys)) (λ ys. now ++ blocks_from (action_blocks n k) blocks_of_action (length now) (map action_content ys))
          c.args.actions.now.items c.deref-action-items.result.now c.loop-action.action-index _ c.action-item.result c.loop-action.invariant.blocks c.deref-action-items.ensures.value c.loop-action-test.true c.action-item.is
          (λ zs. more_blocks (action_blocks n k) blocks_of_action (action_long n k) was now (x ∷ []) (map action_content zs) grown);
    }

pub returns-clause-is : goal.returns-clause-is
returns-clause-is g c =
    gathered_all (λ ys. rows_from (action_laid c.args.names.now (class_content c.args.class.now)) blocks_of_action (length c.loop-action.blocks) (map action_content ys)) c.loop-action.made.items c.args.actions.now.items c.loop-action.action-index _ c.loop-action.invariant.rows
    (subst (λ ys. length ys ≤ c.loop-action.action-index) c.deref-action-items.ensures.value c.loop-action-test.false) refl

pub returns-clause-blocks : goal.returns-clause-blocks
returns-clause-blocks g c =
    gathered_all (λ ys. blocks_from (action_blocks c.args.names.now (class_content c.args.class.now)) blocks_of_action (length c.loop-action.blocks) (map action_content ys)) c.loop-action.blocks c.args.actions.now.items c.loop-action.action-index _ c.loop-action.invariant.blocks
    (subst (λ ys. length ys ≤ c.loop-action.action-index) c.deref-action-items.ensures.value c.loop-action-test.false) refl
