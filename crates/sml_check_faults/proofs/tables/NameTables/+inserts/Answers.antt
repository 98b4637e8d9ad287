use Rattle.std.proofs.Common.{◌∙◌, ap, sym, map, refl}
use Rattle.std.proofs.lemmas.Result.{on_ok_weaker}
use Rattle.sml_tree.specs.Content.{instr_content, block_content, cond_content, waited_content, block_of}
use Rattle.sml_tree.proofs.Blocks.{instr_content-If}
use Rattle.sml_check_faults.specs.Sites.{instr_sites, block_sites}
use Rattle.sml_check_faults.specs.Tables.{names_in, lists_after}
use Rattle.sml_check_faults.proofs.Noted.{notes_more, waits_nothing, two_blocks}
use Rattle.sml_check_faults.proofs.Instrs.{says_Wait}
use Rattle.sml_check_faults.proofs.tables.NameTables.+inserts.Goals as goal

pub note_block-loop-instr-preserved : goal.note_block-loop-instr-preserved
note_block-loop-instr-preserved g t c =
    notes_more c.args.self.now.objects c.args.self.now.groups (λ zs. block_sites (block_of (map instr_content zs)))
    (λ x. instr_sites (instr_content x)) (λ x zs. refl)
    c.args.block.now.instrs.items c.deref-instr-items.result.now c.loop-instr.instr-index c.args.may.now.items
    c.loop-instr.may.items c.loop-instr.invariant c.deref-instr-items.ensures.value
    c.note_instr.new.may.items c.instr-item.result c.loop-instr-test.true c.instr-item.is c.in_ok-note_instr.ensures

pub note_instr-returns-in_ok-note_block-in-If : goal.note_instr-returns-in_ok-note_block-in-If
note_instr-returns-in_ok-note_block-in-If g t c =
    let m = c.args.self.now in
    let was = map names_in c.args.may.now.items in
    on_ok_weaker c.note_block-in-If.result
    (λ done.
    two_blocks m.objects m.groups was (map names_in c.note_block.new.may.items)
    (map names_in c.note_block-in-If.new.may.items) (cond_content c.in-If.cond)
    (block_sites (block_content c.in-If.yes)) (block_sites (block_content c.in-If.no))
    c.in_ok-note_block-in-If.ensures done
    ∙ sym (ap (λ i. lists_after m.objects m.groups was (instr_sites (instr_content i))) c.in-If.is
    ∙ ap (λ i. lists_after m.objects m.groups was (instr_sites i)) (instr_content-If c.in-If.cond c.in-If.yes
    c.in-If.no)))
    c.note_block-in-If.ensures

pub note_instr-returns-in-Wait : goal.note_instr-returns-in-Wait
note_instr-returns-in-Wait g t c =
    let m = c.args.self.now in
    let was = map names_in c.args.may.now.items in
    sym (ap (λ i. lists_after m.objects m.groups was (instr_sites (instr_content i))) c.in-Wait.is
    ∙ ap (λ i. lists_after m.objects m.groups was (instr_sites i)) (says_Wait c.in-Wait.field-0)
    ∙ waits_nothing m.objects m.groups was (map waited_content c.in-Wait.field-0.items))
