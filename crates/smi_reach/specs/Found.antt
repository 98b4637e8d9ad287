-- What is found while the states of a class are gone through.
use Rattle.std.specs.Prelude.{◌≡◌, ◌<◌, ◌⊎◌, ◌↔◌, ℕ, List, Some, All, Contains, length, slice_get, slice_index_or}
use Rattle.sml_domain.specs.Domain.{Domain, Class, Action, State as Stated}
use Rattle.sml_domain.specs.Lookups.{tree_of_block}
use Rattle.smi_reach.specs.Falling.{ends_of}
use Rattle.smi_reach.specs.States.{MayBeIn}

-- to a list those of another were added that were not there
pub record AddsMissing (old more new : List ℕ) : Type 0 where
  pub keeps : (s : ℕ) → Contains old s → Contains new s
  pub adds : (s : ℕ) → Contains more s → Contains new s
  pub only : (s : ℕ) → Contains new s → Contains old s ⊎ Contains more s

-- one of these actions ends in this state
abbrev pub EndsFrom : Domain → List Action → ℕ → Type 0
EndsFrom d actions s = (a : Action) × Contains actions a × Contains (ends_of (tree_of_block d a.block)) s

-- to a list those states were added in which these actions end
pub record AddsEnds (d : Domain) (actions : List Action) (old new : List ℕ) : Type 0 where
  pub keeps : (s : ℕ) → Contains old s → Contains new s
  pub adds : (s : ℕ) → EndsFrom d actions s → Contains new s
  pub only : (s : ℕ) → Contains new s → Contains old s ⊎ EndsFrom d actions s

-- a block has a number below this one
abbrev pub IsBlockOf : ℕ → Action → Type 0
IsBlockOf n a = a.block < n

-- so have the actions of a state
abbrev pub HasBlocks : ℕ → Stated → Type 0
HasBlocks n x = All (IsBlockOf n) x.actions

-- none of the first rows at these places is that of a state of the list
abbrev pub NoneIsIn : List Stated → List ℕ → List ℕ → ℕ → Type 0
NoneIsIn rows reached left n = (j : ℕ) (x : Stated) → j < n → j < length left
    → Contains reached (slice_index_or rows (slice_index_or left j 0) x).number → ⊥

-- the row at this place is that of a state of the list
pub record IsIn (rows : List Stated) (reached left : List ℕ) (j : ℕ) : Type 0 where
  pub within : j < length left
  pub there : (x : Stated) → Contains reached (slice_index_or rows (slice_index_or left j 0) x).number

-- what is found of a class: all states of the list may be had; of each row that is not left, the list has the states in
-- which its actions end
pub record Finds (d : Domain) (c : Class) (reached left : List ℕ) : Type 0 where
  pub sound : (s : ℕ) → Contains reached s → MayBeIn d c s
  pub first : Contains reached c.initial
  pub done : (i : ℕ) (x : Stated) → i < length c.states → Contains left i
      ⊎ ((s : ℕ) → EndsFrom d (slice_index_or c.states i x).actions s → Contains reached s)
  pub places : All (λ i. i < length c.states) left

-- states are exactly those in which an object of the class of a number may be
abbrev pub AreStatesOf : Domain → ℕ → List ℕ → Type 0
AreStatesOf d k states = (c : Class) → slice_get d.classes k ≡ Some c → (s : ℕ) → MayBeIn d c s ↔ Contains states s
