-- What a domain declares, and nothing in it comes to.
use Rattle.std.specs.Prelude.{◌≡◌, ◌≢◌, ◌≤◌, ◌↔◌, ℕ, false, List, Option, Some, None, All, Contains, slice_get}
use Rattle.sml_domain.specs.Program.{Instruction}
use Rattle.sml_domain.specs.Domain.{Domain, Class, State as Stated}
use Rattle.smi_reach.specs.declared.unreached.Unreached.{Unreached}
use Rattle.smi_reach.specs.Places.{IsInstrAt}
use Rattle.smi_reach.specs.Reach.{ComesTo}
use Rattle.smi_reach.specs.States.{MayBeIn}

-- an instruction is there, and no action of the domain comes to it
pub record IsUnreached (d : Domain) (u : Unreached) : Type 0 where
  pub instr : Instruction
  pub there : IsInstrAt d u.block u.place instr
  pub never : ComesTo d u.block u.place → ⊥

-- a list has such instructions, and each is in it or behind one of it, whose block an action begins
pub record AreUnreached (d : Domain) (list : List Unreached) : Type 0 where
  pub only : All (IsUnreached d) list
  pub all : (u : Unreached) → IsUnreached d u → ComesTo d u.block 0
      → (x : Unreached) × Contains list x × (x.block ≡ u.block) × (x.place ≤ u.place)

-- what is said of a block is its first such instruction, if an action begins it
abbrev pub IsFirstIn : Domain → ℕ → Option Unreached → Type 0
IsFirstIn d b None = (u : Unreached) → u.block ≡ b → IsUnreached d u → ComesTo d b 0 → ⊥
IsFirstIn d b (Some x) =
    IsUnreached d x × (x.block ≡ b) × ((u : Unreached) → u.block ≡ b → IsUnreached d u → x.place ≤ u.place)

-- the state of a row is neither the dead one nor one of these
abbrev pub IsLeft : Class → Stated → List ℕ → Type 0
IsLeft c row states = (row.number ≢ c.dead) × (Contains states row.number → ⊥)

-- a state is that of one of these rows, and no object of the class is ever in it; nor is it the dead one
pub record IsUnenteredAmong (d : Domain) (c : Class) (rows : List Stated) (s : ℕ) : Type 0 where
  pub row : Stated
  pub declared : Contains rows row
  pub number : row.number ≡ s
  pub never : MayBeIn d c s → ⊥
  pub alive : s ≢ c.dead

-- so it is with a state of the class, whose actions no device does
pub record IsUnentered (d : Domain) (c : Class) (s : ℕ) : Type 0 where
  pub own : c.associated ≡ false
  pub state : IsUnenteredAmong d c c.states s

-- a list has exactly these states of the class of a number
abbrev pub AreUnentered : Domain → ℕ → List ℕ → Type 0
AreUnentered d k list = (c : Class) → slice_get d.classes k ≡ Some c → (s : ℕ) → IsUnentered d c s ↔ Contains list s
