use Rattle.std.proofs.Common.{map}
use Rattle.sml_tree.specs.Content.{instr_content, block_of}
use Rattle.sml_check_faults.specs.Sites.{block_sites}
use Rattle.sml_check_faults.proofs.Noted.{Notes}
use Rattle.sml_check_faults.proofs.tables.NameTables.+inserts.Given as goal

abbrev pub invariant-note_block-loop-instr : goal.invariant-note_block-loop-instr
invariant-note_block-loop-instr g l =
    Notes l.self.objects l.self.groups (λ zs. block_sites (block_of (map instr_content zs))) l.block.instrs.items
    l.instr-index l.initial.may.items l.may.items
