use Rattle.std.proofs.Common.{[], ap, ◌∙◌, ◌++◌, sym, map, flat_map}
use Rattle.sml_tree.specs.Content.{file_content, class_content, action_content, cond_content, instr_content, block_content, passed_content, arg_content, waited_content}
use Rattle.sml_tree.proofs.Blocks.{instr_content-If}
use Rattle.sml_check_faults.specs.Lookup.{first_item, objects_meant}
use Rattle.sml_check_faults.specs.Sites.{asks, sets, ends, changes, cond_sites, block_sites, instr_sites}
use Rattle.sml_check_faults.specs.Kinds.{site_faults, send_faults, test_faults}
use Rattle.sml_check_faults.proofs.Instrs.{says_Do, says_Set, says_Wait, ends_in, changes_in}
use Rattle.sml_check_faults.proofs.BlockRests.{block_here, block_next, first_first, first_second, first_third, one_site}
use Rattle.sml_check_faults.proofs.Rests.{rest_end_lent}
use Rattle.sml_check_faults.proofs.Waits.{waited_first}
use Rattle.sml_check_faults.proofs.tables.Tables.+fault.Goals as goal

pub block_fault-returns-in-Some : goal.block_fault-returns-in-Some
block_fault-returns-in-Some g t c =
    let f = site_faults c.args.kind (file_content c.args.self.now.file.now) (class_content c.args.class.now) (action_content c.args.action.now) in
    block_here f instr_content c.args.block.now.instrs.items c.deref-instr-items.result.now c.loop-instr.instr-index _ c.instr-item.result
    c.loop-instr.invariant c.deref-instr-items.ensures.value c.loop-instr-test.true c.instr-item.is c.in-Some.name c.in-Some.ensures

pub block_fault-loop-instr-preserved : goal.block_fault-loop-instr-preserved
block_fault-loop-instr-preserved g t c =
    let f = site_faults c.args.kind (file_content c.args.self.now.file.now) (class_content c.args.class.now) (action_content c.args.action.now) in
    block_next f instr_content c.args.block.now.instrs.items c.deref-instr-items.result.now c.loop-instr.instr-index _ c.instr-item.result
    c.loop-instr.invariant c.deref-instr-items.ensures.value c.loop-instr-test.true c.instr-item.is c.in_default.ensures

pub instr_fault-returns-in-Some-block_fault : goal.instr_fault-returns-in-Some-block_fault
instr_fault-returns-in-Some-block_fault g t c =
    let f = site_faults c.args.kind (file_content c.args.self.now.file.now) (class_content c.args.class.now) (action_content c.args.action.now) in
    first_second f (cond_sites (cond_content c.in-If.cond)) (block_sites (block_content c.in-If.yes)) (block_sites (block_content c.in-If.no)) c.in-Some-block_fault.name c.in-None.ensures c.in-Some-block_fault.ensures
    ∙ sym (ap (λ i. first_item (flat_map f (instr_sites (instr_content i)))) c.in-If.is ∙ ap (λ i. first_item (flat_map f (instr_sites i))) (instr_content-If c.in-If.cond c.in-If.yes c.in-If.no))

pub instr_fault-returns-in-Do : goal.instr_fault-returns-in-Do
instr_fault-returns-in-Do g t c =
    let file = file_content c.args.self.now.file.now in
    let k = class_content c.args.class.now in
    let a = action_content c.args.action.now in
    let f = site_faults c.args.kind file k a in
    c.send_fault.ensures
    ∙ ap (λ as'. first_item (send_faults c.args.kind file k a (record { action = c.in-Do.called; args = map passed_content as'; all = c.in-Do.all; target = c.in-Do.target }) (objects_meant file c.in-Do.all c.in-Do.target))) c.deref.ensures.value
    ∙ sym (one_site f (asks (record { action = c.in-Do.called; args = map passed_content c.in-Do.args.items; all = c.in-Do.all; target = c.in-Do.target })))
    ∙ sym (ap (λ i. first_item (flat_map f (instr_sites (instr_content i)))) c.in-Do.is ∙ ap (λ i. first_item (flat_map f (instr_sites i))) (says_Do c.in-Do.called c.in-Do.args c.in-Do.all c.in-Do.target))

pub instr_fault-returns-in-Set : goal.instr_fault-returns-in-Set
instr_fault-returns-in-Set g t c =
    let f = site_faults c.args.kind (file_content c.args.self.now.file.now) (class_content c.args.class.now) (action_content c.args.action.now) in
    c.set_fault.ensures ∙ sym (one_site f (sets c.in-Set.param (arg_content c.in-Set.value)))
    ∙ sym (ap (λ i. first_item (flat_map f (instr_sites (instr_content i)))) c.in-Set.is ∙ ap (λ i. first_item (flat_map f (instr_sites i))) (says_Set c.in-Set.param c.in-Set.value))

pub instr_fault-returns-in-MoveTo : goal.instr_fault-returns-in-MoveTo
instr_fault-returns-in-MoveTo g t c =
    let f = site_faults c.args.kind (file_content c.args.self.now.file.now) (class_content c.args.class.now) (action_content c.args.action.now) in
    c.end_fault.ensures ∙ sym (one_site f (ends c.in-MoveTo.state)) ∙ sym (ap (λ ss. first_item (flat_map f ss)) (ends_in c.args.instr.now c.in-MoveTo.state c.in-MoveTo.is))

pub instr_fault-returns-in-Wait : goal.instr_fault-returns-in-Wait
instr_fault-returns-in-Wait g t c =
    let file = file_content c.args.self.now.file.now in
    let k = class_content c.args.class.now in
    let a = action_content c.args.action.now in
    let f = site_faults c.args.kind file k a in
    c.wait_fault.ensures ∙ ap (λ ws. first_item (flat_map (λ w. test_faults c.args.kind file k w.all w.name []) (map waited_content ws))) c.deref-in-Wait.ensures.value
    ∙ waited_first file k a c.args.kind (map waited_content c.in-Wait.waited.items)
    ∙ sym (ap (λ i. first_item (flat_map f (instr_sites (instr_content i)))) c.in-Wait.is ∙ ap (λ i. first_item (flat_map f (instr_sites i))) (says_Wait c.in-Wait.waited))

pub instr_fault-returns-in-Insert : goal.instr_fault-returns-in-Insert
instr_fault-returns-in-Insert g t c =
    let f = site_faults c.args.kind (file_content c.args.self.now.file.now) (class_content c.args.class.now)
    (action_content c.args.action.now) in
    let its = changes_in c.args.instr.now c.in-Insert.member c.in-Insert.set c.in-Insert.is in
    c.change_fault.ensures ∙ sym (one_site f (changes its.0 c.in-Insert.member c.in-Insert.set))
    ∙ sym (ap (λ ss. first_item (flat_map f ss)) its.1)

pub instr_fault-returns-in-Some : goal.instr_fault-returns-in-Some
instr_fault-returns-in-Some g t c =
    let f = site_faults c.args.kind (file_content c.args.self.now.file.now) (class_content c.args.class.now) (action_content c.args.action.now) in
    first_first f (cond_sites (cond_content c.in-If.cond)) (block_sites (block_content c.in-If.yes) ++ block_sites (block_content c.in-If.no)) c.in-Some.name c.in-Some.ensures
    ∙ sym (ap (λ i. first_item (flat_map f (instr_sites (instr_content i)))) c.in-If.is ∙ ap (λ i. first_item (flat_map f (instr_sites i))) (instr_content-If c.in-If.cond c.in-If.yes c.in-If.no))

pub instr_fault-returns-in-None-block_fault : goal.instr_fault-returns-in-None-block_fault
instr_fault-returns-in-None-block_fault g t c =
    let f = site_faults c.args.kind (file_content c.args.self.now.file.now) (class_content c.args.class.now) (action_content c.args.action.now) in
    first_third f (cond_sites (cond_content c.in-If.cond)) (block_sites (block_content c.in-If.yes)) (block_sites (block_content c.in-If.no)) _ c.in-None.ensures c.in-None-block_fault.ensures c.block_fault-in-None-block_fault.ensures
    ∙ sym (ap (λ i. first_item (flat_map f (instr_sites (instr_content i)))) c.in-If.is ∙ ap (λ i. first_item (flat_map f (instr_sites i))) (instr_content-If c.in-If.cond c.in-If.yes c.in-If.no))

pub block_fault-returns : goal.block_fault-returns
block_fault-returns g t c = rest_end_lent c.deref-instr-items.result.now c.deref-instr-items.ensures.value c.loop-instr.invariant c.loop-instr-test.false
