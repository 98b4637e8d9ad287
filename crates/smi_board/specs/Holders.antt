-- With which object each object is listed, which holds it.
use Rattle.std.specs.Prelude.{◌≡◌, ◌==◌, ◌∷◌, ℕ, Bool, false, List, [], Option, Some, None, length, ⊤}
use Rattle.std.specs.List.{slice_index_or}
use Rattle.smi_board.specs.Rings.{bit, times_in}

-- the object that one is listed with
abbrev pub holder_of : List (Option ℕ) → ℕ → Option ℕ
holder_of holders o = slice_index_or holders o None

-- from a first one, and from each to the one behind it, the objects of a list come, and then no more
abbrev pub IsChain : List (Option ℕ) → Option ℕ → List ℕ → Type 0
IsChain nexts None [] = ⊤
IsChain nexts None (o ∷ os) = ⊥
IsChain nexts (Some p) [] = ⊥
IsChain nexts (Some p) (o ∷ os) = (p ≡ o) × IsChain nexts (slice_index_or nexts o None) os

-- whether what holds an object is this one
abbrev pub is_holder : ℕ → Option ℕ → Bool
is_holder x None = false
is_holder x (Some y) = y == x

-- the objects that are listed with one come from its first, each once
pub record AreListed (holders nexts : List (Option ℕ)) (first : Option ℕ) (x : ℕ) : Type 0 where
  pub listed : List ℕ
  pub linked : IsChain nexts first listed
  pub once : (o : ℕ) → times_in o listed ≡ bit (is_holder x (holder_of holders o))

-- so do those of each object
pub record AreLinked (holders firsts nexts : List (Option ℕ)) : Type 0 where
  pub firsts_count : length firsts ≡ length holders
  pub nexts_count : length nexts ≡ length holders
  pub each : (x : ℕ) → AreListed holders nexts (slice_index_or firsts x None) x
