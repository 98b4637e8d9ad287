-- The places of blocks to which actions come.
use Rattle.std.specs.Prelude.{◌≡◌, ◌⊎◌, ℕ, ◌+◌, Bool, true, false, ◌||◌, List, [], ◌∷◌, Some, slice_get}
use Rattle.sml_domain.specs.Program.{Instruction, Assigns, Sends, SendsToNone, Chooses, Moves, Terminates, Waits, Changes, Formula, ToMembers, Program, Nothing}
use Rattle.sml_domain.specs.Domain.{Domain}
use Rattle.sml_domain.specs.Lookups.{members_at, tree_of_block}
use Rattle.sml_domain.specs.Places.{instrs_at}
use Rattle.sml_domain.specs.Sound.{IsSound}
use Rattle.sml_domain.specs.Trees.{with_instr, trees_of}
use Rattle.smi_journal_entries.specs.declared.journal.Format.{Format}
use Rattle.smi_journal_entries.specs.declared.journal.Format.TheVariants.{One}
use Rattle.smi_meaning.specs.Environment.{Env}
use Rattle.smi_meaning.specs.Meaning.{Move}
use Rattle.smi_meaning.specs.Quiet.{said_of_block}
use Rattle.smi_meaning.specs.Steps.{Leads}
use Rattle.smi_reach.specs.Falling.{falls_through}

-- whether an action may come behind an instruction: behind an `if` only if one of its branches comes to its end
abbrev pub is_instr_passed : Domain → Instruction → Bool
is_instr_passed d (Assigns p v) = true
is_instr_passed d (Sends t a args) = true
is_instr_passed d (SendsToNone set) = true
is_instr_passed d (Chooses f p q) = falls_through (tree_of_block d p) || falls_through (tree_of_block d q)
is_instr_passed d (Moves s) = false
is_instr_passed d (Terminates s) = false
is_instr_passed d (Waits names) = true
is_instr_passed d (Changes add member set) = true

-- the instruction at a place of a block
abbrev pub IsInstrAt : Domain → ℕ → ℕ → Instruction → Type 0
IsInstrAt d b i instr = slice_get (instrs_at d.blocks b) i ≡ Some instr

-- the places to which an action may come that begins in a block: its beginning, what is behind an instruction that is
-- passed, and the beginnings of the branches of an `if`
pub data IsPlaceReached : Domain → ℕ → ℕ → ℕ → Type 0 where
  first : (d : Domain) (root : ℕ) → IsPlaceReached d root root 0
  next : (d : Domain) (root b i : ℕ) (instr : Instruction) → IsPlaceReached d root b i → IsInstrAt d b i instr →
      is_instr_passed d instr ≡ true → IsPlaceReached d root b (i + 1)
  branch : (d : Domain) (root b i : ℕ) (f : Formula) (p q : ℕ) → IsPlaceReached d root b i →
      IsInstrAt d b i (Chooses f p q) → IsPlaceReached d root p 0
  other : (d : Domain) (root b i : ℕ) (f : Formula) (p q : ℕ) → IsPlaceReached d root b i →
      IsInstrAt d b i (Chooses f p q) → IsPlaceReached d root q 0

-- whether there is nobody
abbrev pub is_nobody : List ℕ → Bool
is_nobody [] = true
is_nobody (o ∷ os) = false

-- whether a journal of a format passes over an instruction: in the first, a send to a set without declared members
abbrev pub is_silent : Format → Domain → Instruction → Bool
is_silent One d (Sends (ToMembers set) a args) = is_nobody (members_at d set)
is_silent One d (SendsToNone set) = true
is_silent format d instr = false

-- what is left of an action begins with the instruction at a place to which it may come, which the journal shows
pub record IsAtInstr (format : Format) (d : Domain) (root : ℕ) (left : Program) : Type 0 where
  pub block : ℕ
  pub index : ℕ
  pub instr : Instruction
  pub reached : IsPlaceReached d root block index
  pub there : IsInstrAt d block index instr
  pub heard : is_silent format d instr ≡ false
  pub behind : Program
  pub begins : left ≡ said_of_block format d (with_instr (trees_of d.blocks) instr behind)

-- whatever moves an action made, and whatever was read, either nothing is left of it or what is left begins at such a
-- place: so no entry of a journal shows an instruction at another place
abbrev pub MovesLeadToThem : Type 0
MovesLeadToThem = (format : Format) (d : Domain) (root : ℕ) (env : Env) (made : List Move) (left : Program) (env1 : Env)
    → IsSound d → Leads d (said_of_block format d (tree_of_block d root)) env made left env1
    → (left ≡ Nothing) ⊎ IsAtInstr format d root left
