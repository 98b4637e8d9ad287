use Rattle.std.proofs.Common.{◌≤◌, ◌+◌, ◌*◌, ◌-◌, ◌++◌, length, map}
use Rattle.sml_tree.specs.Content.{instr_content}
use Rattle.sml_tree.specs.Form.{Block}
use Rattle.sml_read_parts.specs.Reads.{LeadsOn}
use Rattle.sml_read.proofs.block.+instructions.Given as goal
use Rattle.sml_tree.specs.declared.limits.TheConstants.{MAX_IFS}

abbrev pub decreases-otherwise : goal.decreases-otherwise
decreases-otherwise g l = 5 * (MAX_IFS - l.depth) + 3

abbrev pub decreases-block : goal.decreases-block
decreases-block g l = 5 * (MAX_IFS - l.depth) + 2

abbrev pub decreases-instr : goal.decreases-instr
decreases-instr g l = 5 * (MAX_IFS - l.depth) + 1

abbrev pub decreases-choice : goal.decreases-choice
decreases-choice g l = 5 * (MAX_IFS - l.depth)

abbrev pub decreases-arms : goal.decreases-arms
decreases-arms g l = 5 * (15 - l.depth) + 4

-- what was read is before what is left
abbrev pub invariant-block-more : goal.invariant-block-more
invariant-block-more g l =
    (length l.reader ≤ length l.fn.reader) × LeadsOn (Block l.depth) (Block l.depth) (λ v. map instr_content l.instrs.items ++ v) l.fn.reader l.reader

abbrev pub decreases-block-more : goal.decreases-block-more
decreases-block-more g l = length l.reader
