-- How blocks end, as code has it.
use Rattle.std.specs.Prelude.{◌≡◌, ◌<◌, ℕ, ◌||◌, ◌&&◌, List, [], ◌++◌, if◌then◌else◌, length, slice_index_or}
use Rattle.sml_domain.specs.Program.{Instruction, Program}
use Rattle.sml_domain.specs.Domain.{Domain}
use Rattle.sml_domain.specs.Lookups.{tree_of_block}
use Rattle.sml_domain.specs.Trees.{with_instr, trees_of}
use Rattle.smi_reach.specs.declared.ways.Way.{Way}
use Rattle.smi_reach.specs.Falling.{falls_through, ends_of}

-- a way is that of a block
pub record IsWayOf (b : Program) (w : Way) : Type 0 where
  pub falls : w.falls_through ≡ falls_through b
  pub ends : w.ends.items ≡ ends_of b

-- ways are those of the first blocks, one for each
abbrev pub AreWays : Domain → List Way → Type 0
AreWays d ways = (b : ℕ) (w : Way) → b < length ways → IsWayOf (tree_of_block d b) (slice_index_or ways b w)

-- a way goes on by one of two branches, where one of them falls through
pub record TakesBranches (p q old new : Way) : Type 0 where
  pub falls : new.falls_through ≡ (p.falls_through || q.falls_through) && old.falls_through
  pub ends : new.ends.items
      ≡ (if p.falls_through || q.falls_through then old.ends.items else []) ++ (p.ends.items ++ q.ends.items)

-- if the way was that of what follows an instruction, it is that of both
abbrev pub TakesInstr : List Way → Way → Way → Instruction → Type 0
TakesInstr before old new instr = (d : Domain) (rest : Program) → AreWays d before → IsWayOf rest old →
    IsWayOf (with_instr (trees_of d.blocks) instr rest) new
