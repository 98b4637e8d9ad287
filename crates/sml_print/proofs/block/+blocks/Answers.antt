use Rattle.std.proofs.Common.{◌≡◌, map, vec_len, ap, sym, ◌∙◌}
use Rattle.sml_text.proofs.Writes.{told_as}
use Rattle.sml_tree.specs.Content.{arg_content, waited_content, instr_content, block_content, block_of}
use Rattle.sml_tree.specs.Syntax.{assign, move_to, terminate, wait_for, insert_in, remove_from}
use Rattle.sml_tree.proofs.Blocks.{instr_content-If}
use Rattle.sml_print.proofs.Instrs.{says_Do, says_Set, says_MoveTo, says_Terminate, says_Wait, says_Insert, says_Remove}
use Rattle.sml_print.specs.Blocks.{instr_text, block_text}
use Rattle.sml_print.proofs.Tolds.{flat_more, flat_all, block_flat, else_some, else_none, told_nothing}
use Rattle.sml_print.proofs.Tolds.{then_told}
use Rattle.sml_print.proofs.block.+blocks.Goals as goal

pub tell_block-loop-instr-init : goal.tell_block-loop-instr-init
tell_block-loop-instr-init g t c = (told_nothing _ _, λ h. h)

pub tell_block-loop-instr-preserved : goal.tell_block-loop-instr-preserved
tell_block-loop-instr-preserved g t c = (
  told_as _ _ _ _ _ _ (then_told c.loop-instr.invariant.0 c.tell_instr.ensures.told)
      (flat_more (λ x. instr_text c.args.level (instr_content x)) c.deref-instr-items.result.now c.loop-instr.instr-index c.instr-item.result c.loop-instr-test.true c.instr-item.is),
  λ h. c.tell_instr.ensures.due (c.loop-instr.invariant.1 h),
)

pub tell_block-returns-clause-told : goal.tell_block-returns-clause-told
tell_block-returns-clause-told g t c =
    told_as _ _ _ _ _ _ c.loop-instr.invariant.0
    (flat_all (instr_text c.args.level) instr_content c.deref-instr-items.result.now c.loop-instr.instr-index c.loop-instr-test.false
    ∙ block_flat c.args.level (map instr_content c.deref-instr-items.result.now) ∙ ap (λ is. block_text c.args.level (block_of (map instr_content is))) c.deref-instr-items.ensures.value)

pub tell_instr-returns-in-Do-clause-told : goal.tell_instr-returns-in-Do-clause-told
tell_instr-returns-in-Do-clause-told g t c =
    let says = ap instr_content c.in-Do.is ∙ says_Do c.in-Do.action c.in-Do.args c.in-Do.all c.in-Do.target in
    told_as _ _ _ _ _ _ (then_told c.tell_indent.ensures.told c.tell_send.ensures.told) (ap (instr_text c.args.level) (sym says))

pub tell_instr-returns-in-If-clause-told : goal.tell_instr-returns-in-If-clause-told
tell_instr-returns-in-If-clause-told g t c =
    told_as _ _ _ _ _ _
    (then_told c.tell_indent.ensures.told (then_told c.tell.ensures.told (then_told c.tell_cond.ensures.told (then_told c.tell-in-If.ensures.told (then_told (told_as _ _ _ _ _ _ c.tell_block.ensures.told (ap (λ n. block_text n (block_content c.in-If.yes)) c.deeper.ensures))
    (then_told c.tell_else.ensures.told (then_told c.tell_indent-in-If.ensures.told c.tell-in-If-2.ensures.told)))))))
    (ap (instr_text c.args.level) (sym (instr_content-If c.in-If.cond c.in-If.yes c.in-If.no)) ∙ ap (λ i. instr_text c.args.level (instr_content i)) (sym c.in-If.is))

pub tell_instr-returns-in-Set-clause-told : goal.tell_instr-returns-in-Set-clause-told
tell_instr-returns-in-Set-clause-told g t c =
    let says : instr_content c.args.instr.now ≡ assign c.in-Set.param (arg_content c.in-Set.value) = ap instr_content c.in-Set.is ∙ says_Set c.in-Set.param c.in-Set.value in
    told_as _ _ _ _ _ _ (then_told c.tell_indent.ensures.told c.tell_assignment.ensures.told) (ap (instr_text c.args.level) (sym says))

pub tell_instr-returns-in-MoveTo-clause-told : goal.tell_instr-returns-in-MoveTo-clause-told
tell_instr-returns-in-MoveTo-clause-told g t c =
    let says : instr_content c.args.instr.now ≡ move_to c.in-MoveTo.state = ap instr_content c.in-MoveTo.is ∙ says_MoveTo _ c.in-MoveTo.state in
    told_as _ _ _ _ _ _ (then_told c.tell_indent.ensures.told c.tell_towards.ensures.told) (ap (instr_text c.args.level) (sym says))

pub tell_instr-returns-in-Terminate-clause-told : goal.tell_instr-returns-in-Terminate-clause-told
tell_instr-returns-in-Terminate-clause-told g t c =
    let says : instr_content c.args.instr.now ≡ terminate c.in-Terminate.state = ap instr_content c.in-Terminate.is ∙ says_Terminate _ c.in-Terminate.state in
    told_as _ _ _ _ _ _ (then_told c.tell_indent.ensures.told c.tell_towards-in-Terminate.ensures.told) (ap (instr_text c.args.level) (sym says))

pub tell_instr-returns-in-Wait-clause-told : goal.tell_instr-returns-in-Wait-clause-told
tell_instr-returns-in-Wait-clause-told g t c =
    let says : instr_content c.args.instr.now ≡ wait_for (map waited_content c.in-Wait.waited.items) = ap instr_content c.in-Wait.is ∙ says_Wait c.in-Wait.waited in
    told_as _ _ _ _ _ _ (then_told c.tell_indent.ensures.told c.tell_wait.ensures.told) (ap (instr_text c.args.level) (sym says))

pub tell_instr-returns-in-Insert-clause-told : goal.tell_instr-returns-in-Insert-clause-told
tell_instr-returns-in-Insert-clause-told g t c =
    let says : instr_content c.args.instr.now ≡ insert_in c.in-Insert.member c.in-Insert.set =
    ap instr_content c.in-Insert.is ∙ says_Insert _ c.in-Insert.member c.in-Insert.set in
    told_as _ _ _ _ _ _ (then_told c.tell_indent.ensures.told c.tell_change.ensures.told)
    (ap (instr_text c.args.level) (sym says))

pub tell_instr-returns-in-Remove-clause-told : goal.tell_instr-returns-in-Remove-clause-told
tell_instr-returns-in-Remove-clause-told g t c =
    let says : instr_content c.args.instr.now ≡ remove_from c.in-Remove.member c.in-Remove.set =
    ap instr_content c.in-Remove.is ∙ says_Remove _ c.in-Remove.member c.in-Remove.set in
    told_as _ _ _ _ _ _ (then_told c.tell_indent.ensures.told c.tell_change-in-Remove.ensures.told)
    (ap (instr_text c.args.level) (sym says))

pub tell_else-returns-clause-told : goal.tell_else-returns-clause-told
tell_else-returns-clause-told g t c =
    let inner = told_as _ _ _ _ _ _ c.tell_block.ensures.told (ap (λ n. block_text n (block_content c.args.block.now)) c.deeper.ensures) in
    told_as _ _ _ _ _ _ (then_told c.tell_indent.ensures.told (then_told c.tell.ensures.told inner))
    (else_some c.args.level instr_content c.args.block.now.instrs.items _ (vec_len c.args.block.now.instrs) c.args.block.now.instrs.ok.0 c.if-is_empty.ensures)

pub tell_else-returns-then-is_empty-clause-told : goal.tell_else-returns-then-is_empty-clause-told
tell_else-returns-then-is_empty-clause-told g t c =
    told_as _ _ _ _ _ _ (told_nothing _ _)
    (else_none c.args.level instr_content c.args.block.now.instrs.items _ (vec_len c.args.block.now.instrs) c.args.block.now.instrs.ok.0 c.if-is_empty.ensures)

-- a sink that has refused is known to have
pub tell_instr-returns-in-Do-clause-due : goal.tell_instr-returns-in-Do-clause-due
tell_instr-returns-in-Do-clause-due g t c = λ h. c.tell_send.ensures.due (c.tell_indent.ensures.due h)

pub tell_instr-returns-in-If-clause-due : goal.tell_instr-returns-in-If-clause-due
tell_instr-returns-in-If-clause-due g t c =
    λ h. c.tell-in-If-2.ensures.due (c.tell_indent-in-If.ensures.due (c.tell_else.ensures.due (c.tell_block.ensures.due (c.tell-in-If.ensures.due (c.tell_cond.ensures.due (c.tell.ensures.due (c.tell_indent.ensures.due h)))))))

pub tell_instr-returns-in-Set-clause-due : goal.tell_instr-returns-in-Set-clause-due
tell_instr-returns-in-Set-clause-due g t c = λ h. c.tell_assignment.ensures.due (c.tell_indent.ensures.due h)

pub tell_instr-returns-in-MoveTo-clause-due : goal.tell_instr-returns-in-MoveTo-clause-due
tell_instr-returns-in-MoveTo-clause-due g t c = λ h. c.tell_towards.ensures.due (c.tell_indent.ensures.due h)

pub tell_instr-returns-in-Terminate-clause-due : goal.tell_instr-returns-in-Terminate-clause-due
tell_instr-returns-in-Terminate-clause-due g t c = λ h. c.tell_towards-in-Terminate.ensures.due (c.tell_indent.ensures.due h)

pub tell_instr-returns-in-Wait-clause-due : goal.tell_instr-returns-in-Wait-clause-due
tell_instr-returns-in-Wait-clause-due g t c = λ h. c.tell_wait.ensures.due (c.tell_indent.ensures.due h)

pub tell_instr-returns-in-Insert-clause-due : goal.tell_instr-returns-in-Insert-clause-due
tell_instr-returns-in-Insert-clause-due g t c = λ h. c.tell_change.ensures.due (c.tell_indent.ensures.due h)

pub tell_instr-returns-in-Remove-clause-due : goal.tell_instr-returns-in-Remove-clause-due
tell_instr-returns-in-Remove-clause-due g t c = λ h. c.tell_change-in-Remove.ensures.due (c.tell_indent.ensures.due h)

pub tell_else-returns-clause-due : goal.tell_else-returns-clause-due
tell_else-returns-clause-due g t c = λ h. c.tell_block.ensures.due (c.tell.ensures.due (c.tell_indent.ensures.due h))

pub tell_else-returns-then-is_empty-clause-due : goal.tell_else-returns-then-is_empty-clause-due
tell_else-returns-then-is_empty-clause-due g t c = λ h. h

pub tell_block-returns-clause-due : goal.tell_block-returns-clause-due
tell_block-returns-clause-due g t c = c.loop-instr.invariant.1
