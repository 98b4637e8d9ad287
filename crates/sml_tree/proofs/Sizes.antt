-- An instruction of a block is smaller than the block.
use Rattle.std.proofs.Common.{◌≡◌, ℕ, ◌<◌, List, length, get_or, rules}
use denote.Param.Weighed.{at_most}
use Rattle.sml_tree.specs.declared.block.Instr.{Instr, size-Instr, the_lemmas}
use Rattle.sml_tree.specs.declared.block.Block.{Block, size-Block}

pub item_smaller : {A : Type 0} (b : Block A) (items : List (Instr A)) (k : ℕ) (i : Instr A) → items ≡ b.instrs.items → k < length items → i ≡ get_or items k i → size-Instr A i < size-Block A b
item_smaller {A} b items k i same within is = search (rules, the_lemmas, at_most)
