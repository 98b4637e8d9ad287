-- What a log takes along from the logs before it.
use Rattle.std.specs.Prelude.{ℕ, List, Option}
use Rattle.smi_carried.specs.declared.carried.CarriedCounts.{CarriedCounts}
use Rattle.smi_carried.specs.declared.carried.CarriedPlace.{CarriedPlace}

-- the last request of a name, and what became of it
pub record OnceView : Type 0 where
  pub name : List ℕ
  pub number : ℕ
  pub place : Option CarriedPlace
  pub what : List ℕ

-- the counts of each object, and the names in the order in which they came
pub record CarriedView : Type 0 where
  pub counts : List CarriedCounts
  pub names : List OnceView
