use Rattle.std.proofs.Common.{map}
use Rattle.std.specs.List.{list_any}
use Rattle.sml_tree.specs.Content.{action_content, block_of, class_content, file_content, instr_content}
use Rattle.sml_check_faults.specs.InBlocks.{is_faulty_site}
use Rattle.sml_check_faults.specs.Sites.{block_sites}
use Rattle.sml_check_faults.proofs.Rests.{Rest}
use Rattle.sml_check_faults.proofs.tables.Tables.+faulty.Given as goal

abbrev pub invariant-is_faulty_block-loop-instr : goal.invariant-is_faulty_block-loop-instr
invariant-is_faulty_block-loop-instr g l = Rest (λ ys. list_any (is_faulty_site (file_content l.self.file.now) (class_content l.class) (action_content l.action)) (block_sites (block_of (map instr_content ys)))) l.block.instrs.items l.instr-index (list_any (is_faulty_site (file_content l.self.file.now) (class_content l.class) (action_content l.action)) (block_sites (block_of (map instr_content l.block.instrs.items))))
