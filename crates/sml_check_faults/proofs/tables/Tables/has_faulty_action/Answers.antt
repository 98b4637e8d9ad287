use Rattle.std.proofs.Common.{◌∙◌, sym, map, refl}
use Rattle.std.specs.List.{list_any}
use Rattle.sml_tree.specs.Content.{file_content, class_content, action_content}
use Rattle.sml_check_faults.specs.InBlocks.{is_faulty_action}
use Rattle.sml_check_faults.proofs.InBlocks.{any_here, any_next}
use Rattle.sml_check_faults.proofs.Rests.{rest_end}
use Rattle.sml_check_faults.proofs.tables.Tables.has_faulty_action.Goals as goal

pub returns-then-is_faulty_block : goal.returns-then-is_faulty_block
returns-then-is_faulty_block g c =
    let p = is_faulty_action (file_content c.args.self.now.file.now) (class_content c.args.class.now) in
    any_here (λ ys. list_any p (map action_content ys)) c.args.actions.now c.args.actions.now c.loop-action.action-index _ c.action-item.result (p (action_content c.action-item.result))
    c.loop-action.invariant refl c.loop-action-test.true c.action-item.is (λ zs. refl) (sym c.is_faulty_block.ensures ∙ c.if-is_faulty_block.true)

pub loop-action-preserved : goal.loop-action-preserved
loop-action-preserved g c =
    let p = is_faulty_action (file_content c.args.self.now.file.now) (class_content c.args.class.now) in
    any_next (λ ys. list_any p (map action_content ys)) c.args.actions.now c.args.actions.now c.loop-action.action-index _ c.action-item.result (p (action_content c.action-item.result))
    c.loop-action.invariant refl c.loop-action-test.true c.action-item.is (λ zs. refl) (sym c.is_faulty_block.ensures ∙ c.if-is_faulty_block.false)

pub returns : goal.returns
returns g c = rest_end c.loop-action.invariant c.loop-action-test.false
