use Rattle.std.proofs.Common.{flat_map, map}
use Rattle.sml_tree.specs.Content.{action_content, block_of, class_content, file_content, instr_content}
use Rattle.sml_check_faults.specs.Lookup as look
use Rattle.sml_check_faults.specs.Kinds as kinds
use Rattle.sml_check_faults.specs.Sites.{block_sites}
use Rattle.sml_check_faults.proofs.Rests.{Rest}
use Rattle.sml_check_faults.proofs.tables.Tables.+fault.Given as goal

abbrev pub invariant-block_fault-loop-instr : goal.invariant-block_fault-loop-instr
invariant-block_fault-loop-instr g l = Rest (λ ys. look.first_item (flat_map (kinds.site_faults l.kind (file_content l.self.file.now) (class_content l.class) (action_content l.action)) (block_sites (block_of (map instr_content ys))))) l.block.instrs.items l.instr-index (let ys = l.block.instrs.items in look.first_item (flat_map (kinds.site_faults l.kind (file_content l.self.file.now) (class_content l.class) (action_content l.action)) (block_sites (block_of (map instr_content ys)))))
