-- The places of all blocks to which actions come, as code has them.
use Rattle.std.specs.Prelude.{◌≡◌, ◌<◌, ◌≤◌, ◌⊎◌, ◌↔◌, ℕ, Bool, true, false, List, All, Contains, length, slice_index_or}
use Rattle.sml_domain.specs.Program.{Instruction, Assigns, Sends, SendsToNone, Chooses, Moves, Terminates, Waits, Changes, Formula}
use Rattle.sml_domain.specs.Domain.{Domain, Class, Action, State as Stated}
use Rattle.smi_reach.specs.declared.places.Reach.{Reach}
use Rattle.smi_reach.specs.Places.{is_instr_passed, IsInstrAt, IsPlaceReached}

-- an instruction is at a place of a block, and an action may come behind it
pub record IsPassedAt (d : Domain) (b i : ℕ) : Type 0 where
  pub instr : Instruction
  pub there : IsInstrAt d b i instr
  pub passed : is_instr_passed d instr ≡ true

-- of a block, an action passes this many of its first instructions, and no more
pub record IsPassedCount (d : Domain) (b n : ℕ) : Type 0 where
  pub before : (i : ℕ) → i < n → IsPassedAt d b i
  pub here : IsPassedAt d b n → ⊥

-- so it is with the numbers of the blocks that they are of
abbrev pub ArePassedCounts : Domain → List ℕ → Type 0
ArePassedCounts d passed = (b : ℕ) → b < length passed → IsPassedCount d b (slice_index_or passed b 0)

-- a list of blocks says that a block is begun
abbrev pub IsBlockBegun : List Bool → ℕ → Type 0
IsBlockBegun begun b = slice_index_or begun b false ≡ true

-- to those that are begun those were added of which something holds, and no others
pub record BeginsBlocks (Holds : ℕ → Type 0) (old new : List Bool) : Type 0 where
  pub keeps : (b : ℕ) → IsBlockBegun old b → IsBlockBegun new b
  pub adds : (b : ℕ) → Holds b → IsBlockBegun new b
  pub only : (b : ℕ) → IsBlockBegun new b → IsBlockBegun old b ⊎ Holds b
  pub count : length new ≡ length old

-- a block is that of one of these actions
abbrev pub IsBlockAmong : List Action → ℕ → Type 0
IsBlockAmong actions b = (a : Action) × Contains actions a × (a.block ≡ b)

-- it is that of an action which one of these states declares
abbrev pub IsBlockWithin : List Stated → ℕ → Type 0
IsBlockWithin states b = (x : Stated) × Contains states x × IsBlockAmong x.actions b

-- it is that of an action which one of these classes declares
abbrev pub IsBlockOfClasses : List Class → ℕ → Type 0
IsBlockOfClasses classes b = (c : Class) × Contains classes c × IsBlockWithin c.states b

-- it is that of an action of a domain
abbrev pub IsActionBlock : Domain → ℕ → Type 0
IsActionBlock d = IsBlockOfClasses d.classes

-- a block is a branch of an instruction
abbrev pub IsBranchOf : Instruction → ℕ → Type 0
IsBranchOf (Chooses f p q) b = (b ≡ p) ⊎ (b ≡ q)
IsBranchOf (Assigns p v) b = ⊥
IsBranchOf (Sends t a args) b = ⊥
IsBranchOf (SendsToNone set) b = ⊥
IsBranchOf (Moves s) b = ⊥
IsBranchOf (Terminates s) b = ⊥
IsBranchOf (Waits names) b = ⊥
IsBranchOf (Changes add member set) b = ⊥

-- a block is a branch of one of the instructions of another up to a place
pub record IsBranchFrom (d : Domain) (block n b : ℕ) : Type 0 where
  pub place : ℕ
  pub within : place ≤ n
  pub instr : Instruction
  pub there : IsInstrAt d block place instr
  pub branch : IsBranchOf instr b

-- an action that begins a block is said to come to this place of it, and to begin it
pub record ReachesPlace (r : Reach) (b i : ℕ) : Type 0 where
  pub begun : IsBlockBegun r.begun.items b
  pub within : i ≤ slice_index_or r.passed.items b 0

-- an action of the domain comes to a place
pub record ComesTo (d : Domain) (b i : ℕ) : Type 0 where
  pub root : ℕ
  pub action : IsActionBlock d root
  pub reached : IsPlaceReached d root b i

-- what is said of places is so
pub record IsReachOf (d : Domain) (r : Reach) : Type 0 where
  pub begun : length r.begun.items ≡ length d.blocks
  pub passed : length r.passed.items ≡ length d.blocks
  pub places : (b i : ℕ) → ReachesPlace r b i ↔ ComesTo d b i

-- the blocks of all actions are begun, and all that are begun are those to which actions come; so are the branches of
-- those with numbers of at least this
pub record IsReachUnderWay (d : Domain) (passed : List ℕ) (begun : List Bool) (n : ℕ) : Type 0 where
  pub count : length begun ≡ length d.blocks
  pub roots : (b : ℕ) → IsActionBlock d b → IsBlockBegun begun b
  pub sound : (b : ℕ) → IsBlockBegun begun b → ComesTo d b 0
  pub closed : (b c : ℕ) → n ≤ b → b < length d.blocks → IsBlockBegun begun b
      → IsBranchFrom d b (slice_index_or passed b 0) c → IsBlockBegun begun c
