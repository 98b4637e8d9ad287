use Rattle.std.proofs.Common.{[], ◌≡◌, ◌∙◌, ◌||◌, ap, sym, map, is_some}
use Rattle.std.specs.List.{list_any}
use Rattle.std.proofs.lemmas.List.Folds.{list_any-append}
use Rattle.sml_tree.specs.Content.{file_content, class_content, action_content, instr_content, block_of, block_content, cond_content, passed_content, arg_content, waited_content}
use Rattle.sml_tree.proofs.Blocks.{instr_content-If}
use Rattle.sml_check_faults.specs.Sites.{cond_sites, asks, sets, ends, changes, block_sites, instr_sites}
use Rattle.sml_check_faults.specs.Lookup.{objects_meant}
use Rattle.sml_check_faults.specs.InBlocks.{is_faulty_site, is_faulty_send, is_faulty_test}
use Rattle.sml_check_faults.proofs.Instrs.{says_Do, says_Set, says_Wait, ends_in, changes_set}
use Rattle.sml_check_faults.proofs.InBlocks.{any_here, any_next, one_any, any_early, any_late, first_so, second_so}
use Rattle.sml_check_faults.proofs.Rests.{rest_end_lent}
use Rattle.sml_check_faults.proofs.Waits.{waited_any}
use Rattle.sml_check_faults.proofs.tables.Tables.+faulty.Goals as goal
use Rattle.sml_check_faults.proofs.tables.Tables.+faulty.Goals.{is_faulty_instr-then-is_faulty_cond, is_faulty_instr-else-is_faulty_cond}

pub is_faulty_block-returns-then-is_faulty_instr : goal.is_faulty_block-returns-then-is_faulty_instr
is_faulty_block-returns-then-is_faulty_instr g t c =
    let p = is_faulty_site (file_content c.args.self.now.file.now) (class_content c.args.class.now) (action_content c.args.action.now) in
    let own = instr_sites (instr_content c.instr-item.result) in
    any_here (λ ys. list_any p (block_sites (block_of (map instr_content ys)))) c.args.block.now.instrs.items c.deref-instr-items.result.now c.loop-instr.instr-index _ c.instr-item.result (list_any p own)
    c.loop-instr.invariant c.deref-instr-items.ensures.value c.loop-instr-test.true c.instr-item.is (λ zs. list_any-append p own (block_sites (block_of (map instr_content zs)))) (sym c.is_faulty_instr.ensures ∙ c.if-is_faulty_instr.true)

pub is_faulty_block-loop-instr-preserved : goal.is_faulty_block-loop-instr-preserved
is_faulty_block-loop-instr-preserved g t c =
    let p = is_faulty_site (file_content c.args.self.now.file.now) (class_content c.args.class.now) (action_content c.args.action.now) in
    let own = instr_sites (instr_content c.instr-item.result) in
    any_next (λ ys. list_any p (block_sites (block_of (map instr_content ys)))) c.args.block.now.instrs.items c.deref-instr-items.result.now c.loop-instr.instr-index _ c.instr-item.result (list_any p own)
    c.loop-instr.invariant c.deref-instr-items.ensures.value c.loop-instr-test.true c.instr-item.is (λ zs. list_any-append p own (block_sites (block_of (map instr_content zs)))) (sym c.is_faulty_instr.ensures ∙ c.if-is_faulty_instr.false)

pub is_faulty_instr-returns-in-Do : goal.is_faulty_instr-returns-in-Do
is_faulty_instr-returns-in-Do g t c =
    let file = file_content c.args.self.now.file.now in
    let k = class_content c.args.class.now in
    let a = action_content c.args.action.now in
    let p = is_faulty_site file k a in
    c.is_faulty_send.ensures
    ∙ ap (λ as'. is_faulty_send file k a (record { action = c.in-Do.called; args = map passed_content as'; all = c.in-Do.all; target = c.in-Do.target }) (objects_meant file c.in-Do.all c.in-Do.target)) c.deref.ensures.value
    ∙ sym (one_any p (asks (record { action = c.in-Do.called; args = map passed_content c.in-Do.args.items; all = c.in-Do.all; target = c.in-Do.target })))
    ∙ sym (ap (λ i. list_any p (instr_sites (instr_content i))) c.in-Do.is ∙ ap (λ i. list_any p (instr_sites i)) (says_Do c.in-Do.called c.in-Do.args c.in-Do.all c.in-Do.target))

pub is_faulty_instr-returns-in-Set : goal.is_faulty_instr-returns-in-Set
is_faulty_instr-returns-in-Set g t c =
    let p = is_faulty_site (file_content c.args.self.now.file.now) (class_content c.args.class.now) (action_content c.args.action.now) in
    c.is_some.ensures ∙ ap is_some c.set_unknown_param.ensures ∙ sym (one_any p (sets c.in-Set.param (arg_content c.in-Set.value)))
    ∙ sym (ap (λ i. list_any p (instr_sites (instr_content i))) c.in-Set.is ∙ ap (λ i. list_any p (instr_sites i)) (says_Set c.in-Set.param c.in-Set.value))

pub is_faulty_instr-returns-in-MoveTo : goal.is_faulty_instr-returns-in-MoveTo
is_faulty_instr-returns-in-MoveTo g t c =
    let p = is_faulty_site (file_content c.args.self.now.file.now) (class_content c.args.class.now) (action_content c.args.action.now) in
    c.is_some-in-MoveTo.ensures ∙ ap is_some c.unknown_end.ensures ∙ sym (one_any p (ends c.in-MoveTo.state)) ∙ sym (ap (list_any p) (ends_in c.args.instr.now c.in-MoveTo.state c.in-MoveTo.is))

pub is_faulty_instr-returns-in-Wait : goal.is_faulty_instr-returns-in-Wait
is_faulty_instr-returns-in-Wait g t c =
    let file = file_content c.args.self.now.file.now in
    let k = class_content c.args.class.now in
    let p = is_faulty_site file k (action_content c.args.action.now) in
    c.is_faulty_wait.ensures ∙ ap (λ ws. list_any (λ w. is_faulty_test file k w.all w.name [] (objects_meant file w.all w.name)) (map waited_content ws)) c.deref-in-Wait.ensures.value
    ∙ waited_any file k (action_content c.args.action.now) (map waited_content c.in-Wait.waited.items)
    ∙ sym (ap (λ i. list_any p (instr_sites (instr_content i))) c.in-Wait.is ∙ ap (λ i. list_any p (instr_sites i)) (says_Wait c.in-Wait.waited))

pub is_faulty_instr-returns-in-Insert : goal.is_faulty_instr-returns-in-Insert
is_faulty_instr-returns-in-Insert g t c =
    let p = is_faulty_site (file_content c.args.self.now.file.now) (class_content c.args.class.now)
    (action_content c.args.action.now) in
    let its = changes_set c.args.instr.now c.in-Insert.set c.in-Insert.is in
    c.is_some-in-Insert.ensures ∙ ap is_some c.unknown_set.ensures
    ∙ sym (one_any p (changes its.1 its.0 c.in-Insert.set)) ∙ sym (ap (list_any p) its.2)

pub is_faulty_instr-returns-then-is_faulty_block : goal.is_faulty_instr-returns-then-is_faulty_block
is_faulty_instr-returns-then-is_faulty_block g t c =
    let p = is_faulty_site (file_content c.args.self.now.file.now) (class_content c.args.class.now) (action_content c.args.action.now) in
    let cs = cond_sites (cond_content c.in-If.cond) in
    let xs = block_sites (block_content c.in-If.yes) in
    let two : c.if-is_faulty_cond.value ≡ (list_any p cs || list_any p xs) =
    elim c.if-is_faulty_cond.branch [
      | is_faulty_instr-then-is_faulty_cond w ↦ first_so _ (list_any p cs) (list_any p xs) (w.value-is ∙ w.if-is_faulty_cond.true) w.if-is_faulty_cond.ensures
      | is_faulty_instr-else-is_faulty_cond w ↦ second_so _ (list_any p cs) (list_any p xs) (w.value-is ∙ w.is_faulty_block.ensures) w.if-is_faulty_cond.ensures
    ] in
    any_early p cs xs (block_sites (block_content c.in-If.no)) c.if-is_faulty_cond.value two c.if-is_faulty_block.true
    ∙ sym (ap (λ i. list_any p (instr_sites (instr_content i))) c.in-If.is ∙ ap (λ i. list_any p (instr_sites i)) (instr_content-If c.in-If.cond c.in-If.yes c.in-If.no))

pub is_faulty_instr-returns-else-is_faulty_block : goal.is_faulty_instr-returns-else-is_faulty_block
is_faulty_instr-returns-else-is_faulty_block g t c =
    let p = is_faulty_site (file_content c.args.self.now.file.now) (class_content c.args.class.now) (action_content c.args.action.now) in
    let cs = cond_sites (cond_content c.in-If.cond) in
    let xs = block_sites (block_content c.in-If.yes) in
    let two : c.if-is_faulty_cond.value ≡ (list_any p cs || list_any p xs) =
    elim c.if-is_faulty_cond.branch [
      | is_faulty_instr-then-is_faulty_cond w ↦ first_so _ (list_any p cs) (list_any p xs) (w.value-is ∙ w.if-is_faulty_cond.true) w.if-is_faulty_cond.ensures
      | is_faulty_instr-else-is_faulty_cond w ↦ second_so _ (list_any p cs) (list_any p xs) (w.value-is ∙ w.is_faulty_block.ensures) w.if-is_faulty_cond.ensures
    ] in
    any_late p cs xs (block_sites (block_content c.in-If.no)) c.if-is_faulty_cond.value two _ c.if-is_faulty_block.false c.is_faulty_block-else-is_faulty_block.ensures
    ∙ sym (ap (λ i. list_any p (instr_sites (instr_content i))) c.in-If.is ∙ ap (λ i. list_any p (instr_sites i)) (instr_content-If c.in-If.cond c.in-If.yes c.in-If.no))

pub is_faulty_block-returns : goal.is_faulty_block-returns
is_faulty_block-returns g t c = rest_end_lent c.deref-instr-items.result.now c.deref-instr-items.ensures.value c.loop-instr.invariant c.loop-instr-test.false
