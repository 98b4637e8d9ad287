use Rattle.std.proofs.Common.{◌≡◌, ◌∙◌, [], ◌∷◌, ◌++◌, ◌≤◌, length, map, ap, refl, subst}
use Rattle.sml_tree.specs.Content.{state_content, class_content}
use Rattle.sml_check_build.specs.Placed.{StatePlaced}
use Rattle.sml_check_build.specs.Layout.{rows_from, blocks_from, state_laid, state_blocks, blocks_of_state}
use Rattle.sml_check_build.proofs.Elements.{all_of}
use Rattle.sml_check_build.proofs.Gathered.{moves_of, gathered_all}
use Rattle.sml_check_build.proofs.Layouts.{state_long, more_rows, more_blocks, one_block}
use Rattle.sml_check_build.proofs.classes.state_rows.Goals as goal

pub state_row-requires : goal.state_row-requires
state_row-requires g c = all_of (StatePlaced c.args.names.now (class_content c.args.class.now)) state_content c.args.class.now.states.items c.deref-state-items.result.now c.loop-state.state-index c.state-item.result c.requires c.deref-state-items.ensures.value c.loop-state-test.true c.state-item.is

pub loop-state-preserved : goal.loop-state-preserved
loop-state-preserved g c =
    let n = c.args.names.now in
    let k = class_content c.args.class.now in
    let was = c.loop-state.blocks in
    let now = c.state_row.new.blocks in
    let made = c.loop-state.made.items in
    let next = c.push.new.self.items in
    let x = state_content c.state-item.result in
    let adds : next ≡ made ++ rows_from (state_laid n k) blocks_of_state (length was) (x ∷ []) = c.in_ok-push.ensures.items ∙ ap (λ r. made ++ r ∷ []) c.in_ok-state_row.ensures.is in
    let grown = one_block (state_blocks n k) blocks_of_state (state_long n k) was now x c.in_ok-state_row.ensures.blocks in
    record {
      rows = moves_of (λ ys. made ++ rows_from (state_laid n k) blocks_of_state (length was) (map state_content ys)) (λ ys. next ++ rows_from (state_laid n k) blocks_of_state (length now) (map state_content ys))
          c.args.class.now.states.items c.deref-state-items.result.now c.loop-state.state-index _ c.state-item.result c.loop-state.invariant.rows c.deref-state-items.ensures.value c.loop-state-test.true c.state-item.is
          (λ zs. more_rows (state_blocks n k) blocks_of_state (state_long n k) was now (x ∷ []) (map state_content zs) grown (state_laid n k) made next adds);
      blocks = moves_of (λ ys. was ++ blocks_from (state_blocks n k) blocks_of_state (length was) (map state_content ys)) (λ ys. now ++ blocks_from (state_blocks n k) blocks_of_state (length now) (map state_content ys))
          c.args.class.now.states.items c.deref-state-items.result.now c.loop-state.state-index _ c.state-item.result c.loop-state.invariant.blocks c.deref-state-items.ensures.value c.loop-state-test.true c.state-item.is
          (λ zs. more_blocks (state_blocks n k) blocks_of_state (state_long n k) was now (x ∷ []) (map state_content zs) grown);
    }

pub returns-clause-is : goal.returns-clause-is
returns-clause-is g c =
    gathered_all (λ ys. rows_from (state_laid c.args.names.now (class_content c.args.class.now)) blocks_of_state (length c.loop-state.blocks) (map state_content ys)) c.loop-state.made.items c.args.class.now.states.items c.loop-state.state-index _ c.loop-state.invariant.rows
    (subst (λ ys. length ys ≤ c.loop-state.state-index) c.deref-state-items.ensures.value c.loop-state-test.false) refl

pub returns-clause-blocks : goal.returns-clause-blocks
returns-clause-blocks g c =
    gathered_all (λ ys. blocks_from (state_blocks c.args.names.now (class_content c.args.class.now)) blocks_of_state (length c.loop-state.blocks) (map state_content ys)) c.loop-state.blocks c.args.class.now.states.items c.loop-state.state-index _ c.loop-state.invariant.blocks
    (subst (λ ys. length ys ≤ c.loop-state.state-index) c.deref-state-items.ensures.value c.loop-state-test.false) refl
