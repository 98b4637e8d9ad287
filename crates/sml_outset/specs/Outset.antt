-- How all stands where a log begins: a state and the parameters with their values an object, and the members of a set.
use Rattle.std.specs.Prelude.{ℕ, List}
use Rattle.sml_domain.specs.Domain.{Param}

-- how an object stands
pub record Stand : Type 0 where
  pub state : ℕ
  pub params : List Param

-- how all objects and sets stand, in the order of their numbers
pub record Outset : Type 0 where
  pub stands : List Stand
  pub members : List (List ℕ)
