-- How many faults were found in a text.
use Rattle.std.specs.Prelude.{ℕ, Bool}

-- how many faults are kept, are told and were found, and whether memory ran out
pub record FoundView : Type 0 where
  pub kept : ℕ
  pub told : ℕ
  pub count : ℕ
  pub lacks_memory : Bool
